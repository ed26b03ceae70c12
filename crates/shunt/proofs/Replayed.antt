-- When each status of `replay` comes.
use Rattle.std.proofs.Common.{◌≡◌, Some, sym, subst, ap, inl, inr, refl, ⊎_elim, Result, Ok, Err, List, [], ◌∙◌, ℕ}
use Rattle.std.specs.Prelude.{◌↔◌, ◌⊎◌}
use Rattle.shunt_store.specs.defs.Files.{Files, content}
use Rattle.shunt_store.specs.defs.Causes.{Rose}
use Rattle.shunt_instance.specs.defs.Instance.{Night, IsInstance}
use Rattle.shunt_blocks.specs.declared.records.Block.{Block}
use Rattle.shunt_blocks.specs.defs.Lists.{AreInRange, IsFeasible}
use Rattle.shunt_plan.specs.defs.Plans.{IsPlanInRange}
use Rattle.shunt_audit.specs.declared.types.Finding.{Finding}
use Rattle.shunt_audit.specs.defs.Findings.{AreFindings}
use Rattle.shunt_audit.specs.defs.Listed.{findings_in}
use Rattle.shunt_audit.proofs.Exactly.{only_one}
use Rattle.shunt_moves.specs.defs.States.{IsState}
use Rattle.shunt_inputs.specs.declared.answers.Outcome.{Outcome}
use Rattle.shunt_inputs.specs.declared.answers.Outcome.TheVariants as outcome
use Rattle.shunt.specs.declared.status.Status.{Status}
use Rattle.shunt.specs.declared.status.Status.TheVariants as status
use Rattle.shunt.specs.defs.Calls.{Replay}
use Rattle.shunt_inputs.specs.defs.Inputs.{Agrees, stated_plans, stated_edits}
use Rattle.shunt_judging.specs.defs.Replayed.{Replayable, stated_turns, turns_in, last_of, IsReplayed, EndsFeasible}
use Rattle.shunt_inputs.specs.defs.Replies.{Reply, Decided}
use Rattle.shunt_judging.specs.defs.Audited.{audit_outcome}
use Rattle.shunt.specs.defs.Ends.{Seen, Ends, Yields, the_status}
use Rattle.shunt.proofs.Exactly.{decides, has_reply, completes, reply_at, EndsAs}
use Rattle.shunt_inputs.proofs.Stated.{parted, plan_stated}
use Rattle.shunt.proofs.Audits.{some_found, none_found, found_some, neither, well, EndsWell}
use Rattle.shunt_judging.proofs.Turned.{last_state, last_in_range}

-- ---- what the files state, and the findings of the blocks that are left

replayed : (n : List ℕ) (x : Result Replayable (List ℕ)) (y : Replayable) (r : Reply) → x ≡ Ok y → Decided x (IsReplayed n) r → IsReplayed n y r
replayed n x y r e is = subst (λ x. Decided x (IsReplayed n) r) e is

pub turns_stated : (s t p e : List ℕ) (y : Replayable) → stated_turns s t p e ≡ Ok y → IsInstance y.night × IsPlanInRange y.night y.plan
unfolding stated_turns
turns_stated s t p e y is =
    let first = parted (stated_plans s t p) _ y is in
    let second = parted (stated_edits first.0.0 e) _ y first.2 in
    let made : record { night = first.0.0; plan = first.0.1; turns = second.0 } ≡ y = cc (second.2) in
    subst (λ (z : Replayable). IsInstance z.night × IsPlanInRange z.night z.plan) made (plan_stated s t p first.0 first.1)

-- that blocks have no finding exactly when they are a feasible plan
abbrev pub NoneFound : Type 0
NoneFound = (night : Night) (blocks : List Block) → IsInstance night → AreInRange night blocks → (findings_in night blocks ≡ []) ↔ IsFeasible night blocks

pub left_state : (s t p e : List ℕ) (y : Replayable) → stated_turns s t p e ≡ Ok y → IsState y.night (last_of y)
left_state s t p e y is = last_state y (turns_stated s t p e y is).1.blocks

left_in_range : (s t p e : List ℕ) (y : Replayable) → stated_turns s t p e ≡ Ok y → AreInRange y.night (last_of y).blocks
left_in_range s t p e y is = last_in_range y (turns_stated s t p e y is).1.blocks

sound_where : (law : NoneFound) (s t p e : List ℕ) (y : Replayable) → stated_turns s t p e ≡ Ok y → (findings_in y.night (last_of y).blocks ≡ []) ↔ EndsFeasible y
sound_where law s t p e y is = law y.night (last_of y).blocks (turns_stated s t p e y is).0 (left_in_range s t p e y is)

told_is : (s t p e : List ℕ) (y : Replayable) (fs : List Finding) → stated_turns s t p e ≡ Ok y → AreFindings y.night (last_of y).blocks fs
    → fs ≡ findings_in y.night (last_of y).blocks
told_is s t p e y fs is told = only_one y.night (last_of y).blocks fs (left_in_range s t p e y is) told.in_order told.exactly

-- ---- exactly when each comes

pub done_there : (law : NoneFound) (s t p e n : List ℕ) (old new : Seen) (x : Status) (files : Files) (y : Replayable) → old.files ≡ Some files → turns_in s t p e files ≡ Ok y
    → EndsFeasible y → Ends (Replay s t p e n) old new x → (x ≡ status.Done) ⊎ Yields x
done_there law s t p e n old new x files y known ok feasible ends =
    let none = (sound_where law (content files s) (content files t) (content files p) (content files e) y ok).1 feasible in
    decides (Replay s t p e n) outcome.Done old new x files known (λ r is.
    let a = replayed n (turns_in s t p e files) y r ok is in
    a.outcome ∙ ap audit_outcome (told_is (content files s) (content files t) (content files p) (content files e) y a.findings ok a.told ∙ none)) ends

pub findings_there : (law : NoneFound) (s t p e n : List ℕ) (old new : Seen) (x : Status) (files : Files) (y : Replayable) → old.files ≡ Some files → turns_in s t p e files ≡ Ok y
    → (EndsFeasible y → ⊥) → Ends (Replay s t p e n) old new x → (x ≡ status.Findings) ⊎ Yields x
findings_there law s t p e n old new x files y known ok never ends =
    decides (Replay s t p e n) outcome.Findings old new x files known (λ r is.
    let a = replayed n (turns_in s t p e files) y r ok is in
    let same = told_is (content files s) (content files t) (content files p) (content files e) y a.findings ok a.told in
    a.outcome ∙ some_found a.findings (λ nil. never ((sound_where law (content files s) (content files t) (content files p) (content files e) y ok).0 (sym same ∙ nil)))) ends

-- an outcome of accepted files is that of the findings of the blocks that are left
record Tells (x : Result Replayable (List ℕ)) (o : Outcome) : Type 0 where
  value : Replayable
  ok : x ≡ Ok value
  findings : List Finding
  told : AreFindings value.night (last_of value).blocks findings
  outcome : audit_outcome findings ≡ o

tells : (n : List ℕ) (x : Result Replayable (List ℕ)) (r : Reply) (o : Outcome) → (o ≡ outcome.Input → ⊥) → Decided x (IsReplayed n) r → r.outcome ≡ o → Tells x o
tells n (Err text) r o other is e = absurd (other (sym e ∙ ap (λ (r : Reply). r.outcome) is))
tells n (Ok y) r o other is e = record { value = y; ok = refl; findings = is.findings; told = is.told; outcome = sym is.outcome ∙ e }

pub done_only : (law : NoneFound) (s t p e n : List ℕ) (old new : Seen) → Ends (Replay s t p e n) old new status.Done
    → (files : Files) × Agrees old.files files × ((y : Replayable) × (turns_in s t p e files ≡ Ok y) × EndsFeasible y)
done_only law s t p e n old new ends =
    let h = has_reply (Replay s t p e n) outcome.Done old new ends in
    let files = h.1.0 in
    let at = tells n (turns_in s t p e files) h.0 outcome.Done (λ e. cc) h.1.2 h.2 in
    let same = told_is (content files s) (content files t) (content files p) (content files e) at.value at.findings at.ok at.told in (
      files,
      h.1.1,
      (
        at.value,
        at.ok,
        (sound_where law (content files s) (content files t) (content files p) (content files e) at.value at.ok).0
            (sym same ∙ none_found at.findings at.outcome),
      ),
    )

pub findings_only : (law : NoneFound) (s t p e n : List ℕ) (old new : Seen) → Ends (Replay s t p e n) old new status.Findings
    → (files : Files) × Agrees old.files files × ((y : Replayable) × (turns_in s t p e files ≡ Ok y) × (EndsFeasible y → ⊥))
findings_only law s t p e n old new ends =
    let h = has_reply (Replay s t p e n) outcome.Findings old new ends in
    let files = h.1.0 in
    let at = tells n (turns_in s t p e files) h.0 outcome.Findings (λ e. cc) h.1.2 h.2 in
    let same = told_is (content files s) (content files t) (content files p) (content files e) at.value at.findings at.ok at.told in (
      files,
      h.1.1,
      (
        at.value,
        at.ok,
        λ feasible. found_some at.findings at.outcome
            (same ∙ (sound_where law (content files s) (content files t) (content files p) (content files e) at.value at.ok).1 feasible),
      ),
    )

never : (s t p e n : List ℕ) (o : Outcome) (old new : Seen) → (o ≡ outcome.Done → ⊥) → (o ≡ outcome.Findings → ⊥) → (o ≡ outcome.Input → ⊥)
    → Ends (Replay s t p e n) old new (the_status o) → ⊥
never s t p e n o old new a b d ends =
    let h = has_reply (Replay s t p e n) o old new ends in
    let at = tells n (turns_in s t p e h.1.0) h.0 o d h.1.2 h.2 in
    ⊎_elim a b (neither at.findings o at.outcome)

pub no_matching : (s t p e n : List ℕ) (old new : Seen) → Ends (Replay s t p e n) old new status.NoMatching → ⊥
no_matching s t p e n old new ends = never s t p e n outcome.NoMatching old new (λ e. cc) (λ e. cc) (λ e. cc) ends

pub no_unfinished : (s t p e n : List ℕ) (old new : Seen) → Ends (Replay s t p e n) old new status.Unfinished → ⊥
no_unfinished s t p e n old new ends = never s t p e n outcome.Unfinished old new (λ e. cc) (λ e. cc) (λ e. cc) ends

-- ---- completeness

pub ends_well : (s t p e n : List ℕ) (old new : Seen) (x : Status) (files : Files) (y : Replayable) → old.files ≡ Some files → turns_in s t p e files ≡ Ok y
    → (Rose old.store_faults new.store_faults → ⊥) → (Rose old.sink_faults new.sink_faults → ⊥) → Ends (Replay s t p e n) old new x → EndsWell x
ends_well s t p e n old new x files y known ok ns nk ends = at (completes (Replay s t p e n) old new x ns nk ends)
  where
    at : EndsAs (Replay s t p e n) old x → EndsWell x
    at (inl m) = inr (inr m)
    at (inr h) =
        let a = replayed n (turns_in s t p e files) y h.0 ok (reply_at (Replay s t p e n) old.files files h.0 known h.1) in
        well x a.findings (h.2 ∙ ap the_status a.outcome)
