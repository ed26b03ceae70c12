-- When each status comes of a command that ends by what is wrong with a plan.
use Rattle.std.proofs.Common.{◌≡◌, Some, sym, subst, ap, inl, inr, refl, ⊎_elim, Result, Ok, Err, List, [], ◌∷◌, ◌∙◌, ℕ}
use Rattle.std.specs.Prelude.{◌↔◌, ◌⊎◌}
use Rattle.shunt_store.specs.defs.Files.{Files, content}
use Rattle.shunt_store.specs.defs.Causes.{Rose}
use Rattle.shunt_instance.specs.defs.Instance.{Night, IsInstance}
use Rattle.shunt_blocks.specs.defs.Lists.{AreInRange, IsFeasible, total_cost}
use Rattle.shunt_plan.specs.declared.records.Plan.{Plan}
use Rattle.shunt_audit.specs.declared.types.Finding.{Finding}
use Rattle.shunt_audit.specs.defs.Plans.{ArePlanFindings, plan_findings}
use Rattle.shunt_audit.proofs.Stated.{only_plan}
use Rattle.shunt_inputs.specs.declared.answers.Outcome.{Outcome}
use Rattle.shunt_inputs.specs.declared.answers.Outcome.TheVariants as outcome
use Rattle.shunt.specs.declared.status.Status.{Status}
use Rattle.shunt.specs.declared.status.Status.TheVariants as status
use Rattle.shunt.specs.defs.Calls.{Call, Audit, Draw, Page}
use Rattle.shunt_inputs.specs.defs.Inputs.{Agrees, stated_plans, plans_in}
use Rattle.shunt_inputs.specs.defs.Replies.{Reply, Decided}
use Rattle.shunt.specs.defs.Replies.{IsReply}
use Rattle.shunt_judging.specs.defs.Audited.{IsAudited, IsClean, audit_outcome}
use Rattle.shunt_drawing.specs.defs.Drawn.{IsDrawn}
use Rattle.shunt_drawing.specs.defs.Paged.{IsPaged}
use Rattle.shunt.specs.defs.Ends.{Seen, Ends, Yields, the_status}
use Rattle.shunt.proofs.Exactly.{decides, has_reply, completes, reply_at, EndsAs}
use Rattle.shunt_inputs.proofs.Stated.{plan_stated}

-- ---- what a plan's findings decide

-- that a plan has no finding exactly when it is feasible and states its cost
abbrev pub FoundNone : Type 0
FoundNone = (night : Night) (plan : Plan) → IsInstance night → AreInRange night plan.blocks
    → (plan_findings night plan ≡ []) ↔ IsFeasible night plan.blocks × (plan.cost ≡ total_cost night plan.blocks)

pub sound_where : (law : FoundNone) (s t p : List ℕ) (y : Night × Plan) → stated_plans s t p ≡ Ok y → (plan_findings y.0 y.1 ≡ []) ↔ IsClean y
sound_where law s t p y e = let h = plan_stated s t p y e in law y.0 y.1 h.0 h.1.blocks

-- the findings that are told are those that the audit computes
pub told_is : (s t p : List ℕ) (y : Night × Plan) (fs : List Finding) → stated_plans s t p ≡ Ok y → ArePlanFindings y.0 y.1 fs → fs ≡ plan_findings y.0 y.1
told_is s t p y fs e told = only_plan y.0 y.1 fs (plan_stated s t p y e).1.blocks told.in_order told.exactly

pub some_found : (fs : List Finding) → (fs ≡ [] → ⊥) → audit_outcome fs ≡ outcome.Findings
some_found [] never_nil = absurd (never_nil refl)
some_found (f ∷ fs) never_nil = refl

pub none_found : (fs : List Finding) → audit_outcome fs ≡ outcome.Done → fs ≡ []
none_found [] e = refl
none_found (f ∷ fs) e = absurd (let h : outcome.Findings ≡ outcome.Done = e in cc)

pub found_some : (fs : List Finding) → audit_outcome fs ≡ outcome.Findings → fs ≡ [] → ⊥
found_some [] e nil = absurd (let h : outcome.Done ≡ outcome.Findings = e in cc)
found_some (f ∷ fs) e nil = absurd (let h : (f ∷ fs) ≡ [] = nil in cc)

pub neither : (fs : List Finding) (o : Outcome) → audit_outcome fs ≡ o → (o ≡ outcome.Done) ⊎ (o ≡ outcome.Findings)
neither [] o e = inl (sym e)
neither (f ∷ fs) o e = inr (sym e)

abbrev pub EndsWell : Status → Type 0
EndsWell x = (x ≡ status.Done) ⊎ ((x ≡ status.Findings) ⊎ (x ≡ status.Memory))

pub well : (x : Status) (fs : List Finding) → x ≡ the_status (audit_outcome fs) → EndsWell x
well x [] e = inl e
well x (f ∷ fs) e = inr (inl e)

-- ---- the answers

-- an answer on a plan that ends as the plan's findings say
pub record IsJudged (x : Night × Plan) (r : Reply) : Type 0 where
  pub findings : List Finding
  pub told : ArePlanFindings x.0 x.1 findings
  pub outcome : r.outcome ≡ audit_outcome findings

judged_by : (P : Night × Plan → Reply → Type 0) (to : (y : Night × Plan) (r : Reply) → P y r → IsJudged y r) (x : Result (Night × Plan) (List ℕ)) (r : Reply) → Decided x P r
    → Decided x IsJudged r
judged_by P to (Err text) r is = is
judged_by P to (Ok y) r is = to y r is

-- all answers of a command are such ones
abbrev pub Judges : Call → List ℕ → List ℕ → List ℕ → Type 0
Judges c s t p = (files : Files) (r : Reply) → IsReply c files r → Decided (plans_in s t p files) IsJudged r

pub audit_judges : (s t p : List ℕ) → Judges (Audit s t p) s t p
audit_judges s t p files r is = judged_by IsAudited (λ y r a. record { findings = a.findings; told = a.told; outcome = ap (λ (r : Reply). r.outcome) a.reply })
    (plans_in s t p files) r is

pub draw_judges : (s t p n : List ℕ) → Judges (Draw s t p n) s t p
draw_judges s t p n files r is = judged_by (IsDrawn n) (λ y r d. record { findings = d.findings; told = d.told; outcome = d.outcome }) (plans_in s t p files) r is

pub page_judges : (s t p n : List ℕ) → Judges (Page s t p n) s t p
page_judges s t p n files r is = judged_by (IsPaged n) (λ y r d. record { findings = d.findings; told = d.told; outcome = d.outcome }) (plans_in s t p files) r is

-- an outcome of an accepted plan is that of its findings
record Tells (x : Result (Night × Plan) (List ℕ)) (o : Outcome) : Type 0 where
  plan : Night × Plan
  ok : x ≡ Ok plan
  findings : List Finding
  told : ArePlanFindings plan.0 plan.1 findings
  outcome : audit_outcome findings ≡ o

tells : (x : Result (Night × Plan) (List ℕ)) (r : Reply) (o : Outcome) → (o ≡ outcome.Input → ⊥) → Decided x IsJudged r → r.outcome ≡ o → Tells x o
tells (Err text) r o other is e = absurd (other (sym e ∙ ap (λ (r : Reply). r.outcome) is))
tells (Ok y) r o other is e = record { plan = y; ok = refl; findings = is.findings; told = is.told; outcome = sym is.outcome ∙ e }

-- ---- exactly when each comes

module _ (c : Call) (s t p : List ℕ) (judges : Judges c s t p) where
  judged : (files : Files) (y : Night × Plan) (r : Reply) → plans_in s t p files ≡ Ok y → IsReply c files r → IsJudged y r
  judged files y r e is = subst (λ x. Decided x IsJudged r) e (judges files r is)

  pub done_there : (law : FoundNone) (old new : Seen) (x : Status) (files : Files) (y : Night × Plan) → old.files ≡ Some files → plans_in s t p files ≡ Ok y → IsClean y
      → Ends c old new x → (x ≡ status.Done) ⊎ Yields x
  done_there law old new x files y told ok sound e =
      let none = (sound_where law (content files s) (content files t) (content files p) y ok).1 sound in
      decides c outcome.Done old new x files told (λ r is.
      let a = judged files y r ok is in
      a.outcome ∙ ap audit_outcome (told_is (content files s) (content files t) (content files p) y a.findings ok a.told ∙ none)) e

  pub findings_there : (law : FoundNone) (old new : Seen) (x : Status) (files : Files) (y : Night × Plan) → old.files ≡ Some files → plans_in s t p files ≡ Ok y → (IsClean y → ⊥)
      → Ends c old new x → (x ≡ status.Findings) ⊎ Yields x
  findings_there law old new x files y told ok unsound e =
      decides c outcome.Findings old new x files told (λ r is.
      let a = judged files y r ok is in
      let same = told_is (content files s) (content files t) (content files p) y a.findings ok a.told in
      a.outcome ∙ some_found a.findings (λ nil. unsound ((sound_where law (content files s) (content files t) (content files p) y ok).0 (sym same ∙ nil)))) e

  pub done_only : (law : FoundNone) (old new : Seen) → Ends c old new status.Done
      → (files : Files) × Agrees old.files files × ((y : Night × Plan) × (plans_in s t p files ≡ Ok y) × IsClean y)
  done_only law old new e =
      let h = has_reply c outcome.Done old new e in
      let files = h.1.0 in
      let at = tells (plans_in s t p files) h.0 outcome.Done (λ e. cc) (judges files h.0 h.1.2) h.2 in
      let same = told_is (content files s) (content files t) (content files p) at.plan at.findings at.ok at.told in
      (files, h.1.1, (at.plan, at.ok, (sound_where law (content files s) (content files t) (content files p) at.plan at.ok).0 (sym same ∙ none_found at.findings at.outcome)))

  pub findings_only : (law : FoundNone) (old new : Seen) → Ends c old new status.Findings
      → (files : Files) × Agrees old.files files × ((y : Night × Plan) × (plans_in s t p files ≡ Ok y) × (IsClean y → ⊥))
  findings_only law old new e =
      let h = has_reply c outcome.Findings old new e in
      let files = h.1.0 in
      let at = tells (plans_in s t p files) h.0 outcome.Findings (λ e. cc) (judges files h.0 h.1.2) h.2 in
      let same = told_is (content files s) (content files t) (content files p) at.plan at.findings at.ok at.told in (
        files,
        h.1.1,
        (
          at.plan,
          at.ok,
          λ sound. found_some at.findings at.outcome (same
              ∙ (sound_where law (content files s) (content files t) (content files p) at.plan at.ok).1 sound),
        ),
      )

  never : (o : Outcome) (old new : Seen) → (o ≡ outcome.Done → ⊥) → (o ≡ outcome.Findings → ⊥) → (o ≡ outcome.Input → ⊥) → Ends c old new (the_status o) → ⊥
  never o old new a b d e =
      let h = has_reply c o old new e in
      let at = tells (plans_in s t p h.1.0) h.0 o d (judges h.1.0 h.0 h.1.2) h.2 in
      ⊎_elim a b (neither at.findings o at.outcome)

  pub no_matching : (old new : Seen) → Ends c old new status.NoMatching → ⊥
  no_matching old new e = never outcome.NoMatching old new (λ e. cc) (λ e. cc) (λ e. cc) e

  pub no_unfinished : (old new : Seen) → Ends c old new status.Unfinished → ⊥
  no_unfinished old new e = never outcome.Unfinished old new (λ e. cc) (λ e. cc) (λ e. cc) e

  -- ---- completeness

  pub ends_well : (old new : Seen) (x : Status) (files : Files) (y : Night × Plan) → old.files ≡ Some files → plans_in s t p files ≡ Ok y
      → (Rose old.store_faults new.store_faults → ⊥) → (Rose old.sink_faults new.sink_faults → ⊥) → Ends c old new x → EndsWell x
  ends_well old new x files y told ok ns nk e = at (completes c old new x ns nk e)
    where
      at : EndsAs c old x → EndsWell x
      at (inl m) = inr (inr m)
      at (inr h) =
          let a = judged files y h.0 ok (reply_at c old.files files h.0 told h.1) in
          well x a.findings (h.2 ∙ ap the_status a.outcome)
