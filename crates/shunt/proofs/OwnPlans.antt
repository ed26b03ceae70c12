-- The files that `plan` leaves are accepted by `check`.
use Rattle.std.proofs.Common.{◌≡◌, Some, None, subst, ap, inl, inr, Ok, List, ◌∙◌, ℕ, Option}
use Rattle.std.specs.Prelude.{◌⊎◌}
use Rattle.shunt_store.specs.defs.Files.{Files, BothTold, content}
use Rattle.shunt_inputs.specs.declared.answers.Outcome.{Outcome}
use Rattle.shunt_inputs.specs.declared.answers.Outcome.TheVariants as outcome
use Rattle.shunt.specs.declared.status.Status.{Status}
use Rattle.shunt.specs.declared.status.Status.TheVariants as status
use Rattle.shunt.specs.defs.Calls.{Check, MakePlan}
use Rattle.shunt.specs.defs.Words.{IsUsable}
use Rattle.shunt_inputs.specs.defs.Inputs.{Agrees}
use Rattle.shunt_judging.specs.defs.Checked.{check_in, IsProved}
use Rattle.shunt.specs.defs.Ends.{Seen, Ends, Yields}
use Rattle.shunt_trial.specs.defs.Rehearsed.{with_both}
use Rattle.shunt_trial.proofs.Left.{TextLaws, checkable, check_left}
use Rattle.shunt.proofs.Checked.{Judges, done_there}
use Rattle.shunt.proofs.Searched.{Finds, finds}
use Rattle.shunt.proofs.Planned.{plan_search, plan_answers}

-- ---- the check of them

-- both are told
pub both_known : (R : Files → Files → Type 0) (o q : Option Files) (files known : Files) → BothTold o q R → Agrees o files → q ≡ Some known → R files known
both_known R None None files known both agrees e = absurd (let h : None ≡ Some known = e in cc)
both_known R None (Some b) files known both agrees e = absurd both
both_known R (Some a) None files known both agrees e = absurd both
both_known R (Some a) (Some b) files known both agrees e = subst (λ x. R x known) agrees (subst (R a) (let same : b ≡ known = cc in same) both)

module _ (judges : Judges) (laws : TextLaws) (s t : List ℕ) (m : ℕ) (p k : List ℕ) (usable : IsUsable (MakePlan s t m p k)) (old mid : Seen) (files : Files)
    (told : mid.files ≡ Some files) where
  abbrev Found : Outcome → Type 0
  Found o = Finds (MakePlan s t m p k) (plan_search s t m p k) o old mid

  its_value : (o : Outcome) (f : Found o) → check_in s t p k files ≡ Ok (checkable f.value f.is.plan f.is.certificate)
  its_value o f =
      let wrote : files ≡ with_both p k f.value f.is.plan f.is.certificate f.files = both_known _ old.files mid.files f.files files f.whole.files f.agrees told in
      ap (check_in s t p k) wrote ∙ check_left laws s t p k usable.0 f.files f.value f.formed f.is.plan f.is.certificate f.ok f.is.in_range f.is.statable

  accepted_from : (o : Outcome) (before new : Seen) (x : Status) → before.files ≡ Some files → Found o → Ends (Check s t p k) before new x → (x ≡ status.Done) ⊎ Yields x
  accepted_from o before new x known f ends =
      let proved : IsProved (checkable f.value f.is.plan f.is.certificate) = f.is.meet.accepted in
      done_there judges s t p k before new x files (checkable f.value f.is.plan f.is.certificate) known (its_value o f) proved ends

  pub accepted : (before new : Seen) (first x : Status) → Ends (MakePlan s t m p k) old mid first → (first ≡ status.Done) ⊎ (first ≡ status.Unfinished) → before.files ≡ Some files
      → Ends (Check s t p k) before new x → (x ≡ status.Done) ⊎ Yields x
  accepted before new first x made (inl e) known ends = accepted_from outcome.Done before new x known
      (finds (MakePlan s t m p k) (plan_search s t m p k) (plan_answers s t m p k) outcome.Done old mid (λ e. cc) (λ e. cc) (λ e. cc)
      (subst (Ends (MakePlan s t m p k) old mid) e made)) ends
  accepted before new first x made (inr e) known ends = accepted_from outcome.Unfinished before new x known
      (finds (MakePlan s t m p k) (plan_search s t m p k) (plan_answers s t m p k) outcome.Unfinished old mid (λ e. cc) (λ e. cc) (λ e. cc)
      (subst (Ends (MakePlan s t m p k) old mid) e made)) ends
