-- When each status comes of a command that ends well on all files that it accepts.
use Rattle.std.proofs.Common.{◌≡◌, Some, sym, subst, ap, inl, inr, refl, Result, Ok, Err, List, ◌∙◌, ℕ}
use Rattle.std.specs.Prelude.{◌⊎◌}
use Rattle.shunt_store.specs.defs.Files.{Files}
use Rattle.shunt_store.specs.defs.Causes.{Rose}
use Rattle.shunt_inputs.specs.declared.answers.Outcome.{Outcome}
use Rattle.shunt_inputs.specs.declared.answers.Outcome.TheVariants as outcome
use Rattle.shunt_inputs.specs.defs.Inputs.{Agrees}
use Rattle.shunt_inputs.specs.defs.Replies.{Reply, Decided}
use Rattle.shunt.specs.declared.status.Status.{Status}
use Rattle.shunt.specs.declared.status.Status.TheVariants as status
use Rattle.shunt.specs.defs.Calls.{Call}
use Rattle.shunt.specs.defs.Replies.{Value, stated_in, IsAnswer}
use Rattle.shunt.specs.defs.Ends.{Seen, Ends, Yields, the_status}
use Rattle.shunt.proofs.Exactly.{decides, has_reply, completes, reply_at, EndsAs}

module _ (c : Call) (good : (v : Value c) (r : Reply) → IsAnswer c v r → r.outcome ≡ outcome.Done) where
  answer_at : (x : Result (Value c) (List ℕ)) (v : Value c) (r : Reply) → x ≡ Ok v → Decided x (IsAnswer c) r → IsAnswer c v r
  answer_at x v r e is = subst (λ x. Decided x (IsAnswer c) r) e is

  pub done_there : (old new : Seen) (x : Status) (files : Files) (v : Value c) → old.files ≡ Some files → stated_in c files ≡ Ok v → Ends c old new x → (x ≡ status.Done) ⊎ Yields x
  done_there old new x files v known ok ends = decides c outcome.Done old new x files known (λ r is. good v r (answer_at (stated_in c files) v r ok is)) ends

  -- an outcome of accepted files is a good end
  tells : (x : Result (Value c) (List ℕ)) (r : Reply) (o : Outcome) → (o ≡ outcome.Input → ⊥) → Decided x (IsAnswer c) r → r.outcome ≡ o
      → (v : Value c) × (x ≡ Ok v) × (o ≡ outcome.Done)
  tells (Err text) r o other is e = absurd (other (sym e ∙ ap (λ (r : Reply). r.outcome) is))
  tells (Ok v) r o other is e = (v, refl, sym e ∙ good v r is)

  pub done_only : (old new : Seen) → Ends c old new status.Done → (files : Files) × Agrees old.files files × ((v : Value c) × (stated_in c files ≡ Ok v))
  done_only old new ends =
      let h = has_reply c outcome.Done old new ends in
      let at = tells (stated_in c h.1.0) h.0 outcome.Done (λ e. cc) h.1.2 h.2 in
      (h.1.0, h.1.1, (at.0, at.1))

  never : (o : Outcome) (old new : Seen) → (o ≡ outcome.Done → ⊥) → (o ≡ outcome.Input → ⊥) → Ends c old new (the_status o) → ⊥
  never o old new a b ends =
      let h = has_reply c o old new ends in
      let at = tells (stated_in c h.1.0) h.0 o b h.1.2 h.2 in
      a at.2

  pub no_findings : (old new : Seen) → Ends c old new status.Findings → ⊥
  no_findings old new ends = never outcome.Findings old new (λ e. cc) (λ e. cc) ends

  pub no_matching : (old new : Seen) → Ends c old new status.NoMatching → ⊥
  no_matching old new ends = never outcome.NoMatching old new (λ e. cc) (λ e. cc) ends

  pub no_unfinished : (old new : Seen) → Ends c old new status.Unfinished → ⊥
  no_unfinished old new ends = never outcome.Unfinished old new (λ e. cc) (λ e. cc) ends

  pub ends_well : (old new : Seen) (x : Status) (files : Files) (v : Value c) → old.files ≡ Some files → stated_in c files ≡ Ok v → (Rose old.store_faults new.store_faults → ⊥)
      → (Rose old.sink_faults new.sink_faults → ⊥) → Ends c old new x → (x ≡ status.Done) ⊎ (x ≡ status.Memory)
  ends_well old new x files v known ok ns nk ends = at (completes c old new x ns nk ends)
    where
      at : EndsAs c old x → (x ≡ status.Done) ⊎ (x ≡ status.Memory)
      at (inl m) = inr m
      at (inr h) = inl (h.2 ∙ ap the_status (good v h.0 (answer_at (stated_in c files) v h.0 ok (reply_at c old.files files h.0 known h.1))))
