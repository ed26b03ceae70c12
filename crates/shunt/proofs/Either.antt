-- When each status comes of a command that ends well exactly on some of what its files can state, and with findings on the rest.
use Rattle.std.proofs.Common.{◌≡◌, Some, sym, subst, ap, inl, inr, refl, ⊎_elim, Result, Ok, Err, List, ◌∙◌, ℕ}
use Rattle.std.specs.Prelude.{◌⊎◌}
use Rattle.shunt_store.specs.defs.Files.{Files}
use Rattle.shunt_store.specs.defs.Causes.{Rose}
use Rattle.shunt_inputs.specs.declared.answers.Outcome.{Outcome}
use Rattle.shunt_inputs.specs.declared.answers.Outcome.TheVariants as outcome
use Rattle.shunt_inputs.specs.defs.Inputs.{Agrees}
use Rattle.shunt_inputs.specs.defs.Replies.{Reply, Decided}
use Rattle.shunt.specs.declared.status.Status.{Status}
use Rattle.shunt.specs.declared.status.Status.TheVariants as status
use Rattle.shunt.specs.defs.Calls.{Call}
use Rattle.shunt.specs.defs.Replies.{Value, stated_in, IsAnswer}
use Rattle.shunt.specs.defs.Ends.{Seen, Ends, Yields, the_status}
use Rattle.shunt.proofs.Exactly.{decides, has_reply, completes, reply_at, EndsAs}
use Rattle.shunt.proofs.Audits.{EndsWell}

-- an answer ends well where this holds, and with findings where it doesn't
abbrev pub Parts : Type 0 → Outcome → Type 0
Parts Good o = (Good × (o ≡ outcome.Done)) ⊎ ((Good → ⊥) × (o ≡ outcome.Findings))

module _ (c : Call) (Good : Value c → Type 0) (parts : (files : Files) (v : Value c) (r : Reply) → stated_in c files ≡ Ok v → IsAnswer c v r → Parts (Good v) r.outcome) where
  answer_at : (x : Result (Value c) (List ℕ)) (v : Value c) (r : Reply) → x ≡ Ok v → Decided x (IsAnswer c) r → IsAnswer c v r
  answer_at x v r e is = subst (λ x. Decided x (IsAnswer c) r) e is

  good_done : (v : Value c) (o : Outcome) → Good v → Parts (Good v) o → o ≡ outcome.Done
  good_done v o good (inl h) = h.1
  good_done v o good (inr h) = absurd (h.0 good)

  bad_found : (v : Value c) (o : Outcome) → (Good v → ⊥) → Parts (Good v) o → o ≡ outcome.Findings
  bad_found v o bad (inl h) = absurd (bad h.0)
  bad_found v o bad (inr h) = h.1

  done_good : (v : Value c) (o : Outcome) → o ≡ outcome.Done → Parts (Good v) o → Good v
  done_good v o e (inl h) = h.0
  done_good v o e (inr h) = absurd (let no : outcome.Findings ≡ outcome.Done = sym h.1 ∙ e in cc)

  found_bad : (v : Value c) (o : Outcome) → o ≡ outcome.Findings → Parts (Good v) o → Good v → ⊥
  found_bad v o e (inl h) good = let no : outcome.Done ≡ outcome.Findings = sym h.1 ∙ e in cc
  found_bad v o e (inr h) good = h.0 good

  pub done_there : (old new : Seen) (x : Status) (files : Files) (v : Value c) → old.files ≡ Some files → stated_in c files ≡ Ok v → Good v → Ends c old new x
      → (x ≡ status.Done) ⊎ Yields x
  done_there old new x files v known ok good ends = decides c outcome.Done old new x files known
      (λ r is. good_done v r.outcome good (parts files v r ok (answer_at (stated_in c files) v r ok is))) ends

  pub findings_there : (old new : Seen) (x : Status) (files : Files) (v : Value c) → old.files ≡ Some files → stated_in c files ≡ Ok v → (Good v → ⊥) → Ends c old new x
      → (x ≡ status.Findings) ⊎ Yields x
  findings_there old new x files v known ok bad ends = decides c outcome.Findings old new x files known
      (λ r is. bad_found v r.outcome bad (parts files v r ok (answer_at (stated_in c files) v r ok is))) ends

  -- an outcome of accepted files is that of an answer on what they state
  tells : (files : Files) (x : Result (Value c) (List ℕ)) (r : Reply) (o : Outcome) → stated_in c files ≡ x → (o ≡ outcome.Input → ⊥) → Decided x (IsAnswer c) r → r.outcome ≡ o
      → (v : Value c) × (x ≡ Ok v) × Parts (Good v) o
  tells files (Err text) r o ok other is e = absurd (other (sym e ∙ ap (λ (r : Reply). r.outcome) is))
  tells files (Ok v) r o ok other is e = (v, refl, subst (Parts (Good v)) e (parts files v r ok is))

  pub done_only : (old new : Seen) → Ends c old new status.Done → (files : Files) × Agrees old.files files × ((v : Value c) × (stated_in c files ≡ Ok v) × Good v)
  done_only old new ends =
      let h = has_reply c outcome.Done old new ends in
      let at = tells h.1.0 (stated_in c h.1.0) h.0 outcome.Done refl (λ e. cc) h.1.2 h.2 in
      (h.1.0, h.1.1, (at.0, at.1, done_good at.0 outcome.Done refl at.2))

  pub findings_only : (old new : Seen) → Ends c old new status.Findings → (files : Files) × Agrees old.files files × ((v : Value c) × (stated_in c files ≡ Ok v) × (Good v → ⊥))
  findings_only old new ends =
      let h = has_reply c outcome.Findings old new ends in
      let at = tells h.1.0 (stated_in c h.1.0) h.0 outcome.Findings refl (λ e. cc) h.1.2 h.2 in
      (h.1.0, h.1.1, (at.0, at.1, found_bad at.0 outcome.Findings refl at.2))

  never : (o : Outcome) (old new : Seen) → (o ≡ outcome.Done → ⊥) → (o ≡ outcome.Findings → ⊥) → (o ≡ outcome.Input → ⊥) → Ends c old new (the_status o) → ⊥
  never o old new a b d ends =
      let h = has_reply c o old new ends in
      let at = tells h.1.0 (stated_in c h.1.0) h.0 o refl d h.1.2 h.2 in
      ⊎_elim (λ p. a p.1) (λ p. b p.1) at.2

  pub no_matching : (old new : Seen) → Ends c old new status.NoMatching → ⊥
  no_matching old new ends = never outcome.NoMatching old new (λ e. cc) (λ e. cc) (λ e. cc) ends

  pub no_unfinished : (old new : Seen) → Ends c old new status.Unfinished → ⊥
  no_unfinished old new ends = never outcome.Unfinished old new (λ e. cc) (λ e. cc) (λ e. cc) ends

  pub ends_well : (old new : Seen) (x : Status) (files : Files) (v : Value c) → old.files ≡ Some files → stated_in c files ≡ Ok v → (Rose old.store_faults new.store_faults → ⊥)
      → (Rose old.sink_faults new.sink_faults → ⊥) → Ends c old new x → EndsWell x
  ends_well old new x files v known ok ns nk ends = at (completes c old new x ns nk ends)
    where
      at : EndsAs c old x → EndsWell x
      at (inl m) = inr (inr m)
      at (inr h) = ⊎_elim (λ p. inl (h.2 ∙ ap the_status p.1)) (λ p. inr (inl (h.2 ∙ ap the_status p.1)))
          (parts files v h.0 ok (answer_at (stated_in c files) v h.0 ok (reply_at c old.files files h.0 known h.1)))
