-- When each status comes of a command that wants a plan without findings.
use Rattle.std.proofs.Common.{◌≡◌, Some, sym, subst, ap, inl, inr, refl, ⊎_elim, Result, Ok, Err, List, [], ◌∙◌, ℕ}
use Rattle.std.specs.Prelude.{◌⊎◌}
use Rattle.shunt_store.specs.defs.Files.{Files, content}
use Rattle.shunt_store.specs.defs.Causes.{Rose}
use Rattle.shunt_instance.specs.defs.Instance.{Night}
use Rattle.shunt_plan.specs.declared.records.Plan.{Plan}
use Rattle.shunt_audit.specs.defs.Plans.{ArePlanFindings}
use Rattle.shunt_inputs.specs.declared.answers.Outcome.{Outcome}
use Rattle.shunt_inputs.specs.declared.answers.Outcome.TheVariants as outcome
use Rattle.shunt.specs.declared.status.Status.{Status}
use Rattle.shunt.specs.declared.status.Status.TheVariants as status
use Rattle.shunt.specs.defs.Calls.{Call, Delay, Report, Sheet}
use Rattle.shunt_inputs.specs.defs.Inputs.{Agrees, plans_in}
use Rattle.shunt_inputs.specs.defs.Replies.{Reply, Decided}
use Rattle.shunt.specs.defs.Replies.{IsReply}
use Rattle.shunt_judging.specs.defs.Audited.{IsFaulty, IsClean}
use Rattle.shunt_dispatch.specs.defs.Delayed.{HasDelays}
use Rattle.shunt_dispatch.specs.defs.Ordered.{HasSheet}
use Rattle.shunt_exchange.specs.defs.Reported.{HasReport}
use Rattle.shunt.specs.defs.Ends.{Seen, Ends, Yields, the_status}
use Rattle.shunt.proofs.Exactly.{decides, has_reply, completes, reply_at, faulty_outcome, delays_outcome, report_outcome, EndsAs}
use Rattle.shunt.proofs.Audits.{EndsWell, FoundNone, sound_where, told_is}

-- the answer on a plan: its findings, or the command's own
abbrev Either : (Night × Plan → Reply → Type 0) → Night × Plan → Reply → Type 0
Either Own x r = IsFaulty x r ⊎ Own x r

-- the command has such answers, and its own are good ends on plans without findings
pub record Answers (c : Call) (s t p : List ℕ) (Own : Night × Plan → Reply → Type 0) : Type 0 where
  pub either : (files : Files) (r : Reply) → IsReply c files r → Decided (plans_in s t p files) (Either Own) r
  pub done : (x : Night × Plan) (r : Reply) → Own x r → r.outcome ≡ outcome.Done
  pub none : (x : Night × Plan) (r : Reply) → Own x r → ArePlanFindings x.0 x.1 []

module _ (law : FoundNone) (s t p : List ℕ) (files : Files) (y : Night × Plan) (ok : plans_in s t p files ≡ Ok y) where
  never_clean : (r : Reply) → IsFaulty y r → IsClean y → ⊥
  never_clean r f clean = f.some (told_is (content files s) (content files t) (content files p) y f.findings ok f.told
      ∙ (sound_where law (content files s) (content files t) (content files p) y ok).1 clean)

  none_is : ArePlanFindings y.0 y.1 [] → IsClean y
  none_is none = (sound_where law (content files s) (content files t) (content files p) y ok).0 (sym (told_is (content files s) (content files t) (content files p) y [] ok none))

module _ (c : Call) (s t p : List ℕ) (Own : Night × Plan → Reply → Type 0) (answers : Answers c s t p Own) where
  on_plan : (files : Files) (y : Night × Plan) (r : Reply) → plans_in s t p files ≡ Ok y → IsReply c files r → Either Own y r
  on_plan files y r ok is = subst (λ x. Decided x (Either Own) r) ok (answers.either files r is)

  pub done_there : (law : FoundNone) (old new : Seen) (x : Status) (files : Files) (y : Night × Plan) → old.files ≡ Some files → plans_in s t p files ≡ Ok y → IsClean y
      → Ends c old new x → (x ≡ status.Done) ⊎ Yields x
  done_there law old new x files y told ok clean e = decides c outcome.Done old new x files told (λ r is. at r (on_plan files y r ok is)) e
    where
      at : (r : Reply) → Either Own y r → r.outcome ≡ outcome.Done
      at r (inl f) = absurd (never_clean law s t p files y ok r f clean)
      at r (inr own) = answers.done y r own

  pub findings_there : (law : FoundNone) (old new : Seen) (x : Status) (files : Files) (y : Night × Plan) → old.files ≡ Some files → plans_in s t p files ≡ Ok y → (IsClean y → ⊥)
      → Ends c old new x → (x ≡ status.Findings) ⊎ Yields x
  findings_there law old new x files y told ok unclean e = decides c outcome.Findings old new x files told (λ r is. at r (on_plan files y r ok is)) e
    where
      at : (r : Reply) → Either Own y r → r.outcome ≡ outcome.Findings
      at r (inl f) = faulty_outcome y r f
      at r (inr own) = absurd (unclean (none_is law s t p files y ok (answers.none y r own)))

  -- a status that doesn't yield is that of an answer on what the files state
  pub tells : (x : Result (Night × Plan) (List ℕ)) (r : Reply) (o : Outcome) → (o ≡ outcome.Input → ⊥) → Decided x (Either Own) r → r.outcome ≡ o
      → (y : Night × Plan) × (x ≡ Ok y) × Either Own y r
  tells (Err text) r o other is e = absurd (other (sym e ∙ ap (λ (r : Reply). r.outcome) is))
  tells (Ok y) r o other is e = (y, refl, is)

  pub clean_of : (law : FoundNone) (files : Files) (y : Night × Plan) (r : Reply) → plans_in s t p files ≡ Ok y → Either Own y r → r.outcome ≡ outcome.Done → IsClean y
  clean_of law files y r ok (inl f) e = absurd (let h : outcome.Findings ≡ outcome.Done = sym (faulty_outcome y r f) ∙ e in cc)
  clean_of law files y r ok (inr own) e = none_is law s t p files y ok (answers.none y r own)

  pub done_only : (law : FoundNone) (old new : Seen) → Ends c old new status.Done
      → (files : Files) × Agrees old.files files × ((y : Night × Plan) × (plans_in s t p files ≡ Ok y) × IsClean y)
  done_only law old new e =
      let h = has_reply c outcome.Done old new e in
      let at = tells (plans_in s t p h.1.0) h.0 outcome.Done (λ e. cc) (answers.either h.1.0 h.0 h.1.2) h.2 in
      (h.1.0, h.1.1, (at.0, at.1, clean_of law h.1.0 at.0 h.0 at.1 at.2 h.2))

  unclean_of : (law : FoundNone) (files : Files) (y : Night × Plan) (r : Reply) → plans_in s t p files ≡ Ok y → Either Own y r → r.outcome ≡ outcome.Findings → IsClean y → ⊥
  unclean_of law files y r ok (inl f) e clean = never_clean law s t p files y ok r f clean
  unclean_of law files y r ok (inr own) e clean = let h : outcome.Done ≡ outcome.Findings = sym (answers.done y r own) ∙ e in cc

  pub findings_only : (law : FoundNone) (old new : Seen) → Ends c old new status.Findings
      → (files : Files) × Agrees old.files files × ((y : Night × Plan) × (plans_in s t p files ≡ Ok y) × (IsClean y → ⊥))
  findings_only law old new e =
      let h = has_reply c outcome.Findings old new e in
      let at = tells (plans_in s t p h.1.0) h.0 outcome.Findings (λ e. cc) (answers.either h.1.0 h.0 h.1.2) h.2 in
      (h.1.0, h.1.1, (at.0, at.1, unclean_of law h.1.0 at.0 h.0 at.1 at.2 h.2))

  -- no other status than these two
  either_outcome : (y : Night × Plan) (r : Reply) → Either Own y r → (r.outcome ≡ outcome.Done) ⊎ (r.outcome ≡ outcome.Findings)
  either_outcome y r (inl f) = inr (faulty_outcome y r f)
  either_outcome y r (inr own) = inl (answers.done y r own)

  never : (o : Outcome) (old new : Seen) → (o ≡ outcome.Done → ⊥) → (o ≡ outcome.Findings → ⊥) → (o ≡ outcome.Input → ⊥) → Ends c old new (the_status o) → ⊥
  never o old new a b d e =
      let h = has_reply c o old new e in
      let at = tells (plans_in s t p h.1.0) h.0 o d (answers.either h.1.0 h.0 h.1.2) h.2 in
      ⊎_elim (λ is. a (sym h.2 ∙ is)) (λ is. b (sym h.2 ∙ is)) (either_outcome at.0 h.0 at.2)

  pub no_matching : (old new : Seen) → Ends c old new status.NoMatching → ⊥
  no_matching old new e = never outcome.NoMatching old new (λ e. cc) (λ e. cc) (λ e. cc) e

  pub no_unfinished : (old new : Seen) → Ends c old new status.Unfinished → ⊥
  no_unfinished old new e = never outcome.Unfinished old new (λ e. cc) (λ e. cc) (λ e. cc) e

  pub ends_well : (old new : Seen) (x : Status) (files : Files) (y : Night × Plan) → old.files ≡ Some files → plans_in s t p files ≡ Ok y
      → (Rose old.store_faults new.store_faults → ⊥) → (Rose old.sink_faults new.sink_faults → ⊥) → Ends c old new x → EndsWell x
  ends_well old new x files y told ok ns nk e = at (completes c old new x ns nk e)
    where
      at : EndsAs c old x → EndsWell x
      at (inl m) = inr (inr m)
      at (inr h) =
          ⊎_elim (λ is. inl (h.2 ∙ ap the_status is)) (λ is. inr (inl (h.2 ∙ ap the_status is)))
          (either_outcome y h.0 (on_plan files y h.0 ok (reply_at c old.files files h.0 told h.1)))

-- ---- which commands these are

pub delay_answers : (s t p : List ℕ) → Answers (Delay s t p) s t p HasDelays
delay_answers s t p = record { either = λ files r is. is; done = delays_outcome; none = λ x r d. d.none }

pub sheet_answers : (s t p n : List ℕ) → Answers (Sheet s t p n) s t p (HasSheet n)
sheet_answers s t p n = record { either = λ files r is. is; done = λ x r d. d.outcome; none = λ x r d. d.none }

pub report_answers : (s t p : List ℕ) → Answers (Report s t p) s t p HasReport
report_answers s t p = record { either = λ files r is. is; done = report_outcome; none = λ x r d. d.none }
