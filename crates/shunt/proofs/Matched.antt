-- When each status of `match` comes.
use Rattle.std.proofs.Common.{◌≡◌, Some, sym, subst, ap, inl, inr, refl, Result, Ok, Err, List, ◌∙◌, ℕ}
use Rattle.std.specs.Prelude.{◌⊎◌}
use Rattle.shunt_store.specs.defs.Files.{Files, content}
use Rattle.shunt_store.specs.defs.Causes.{Rose}
use Rattle.shunt_instance.specs.defs.Instance.{Night}
use Rattle.shunt_matching.specs.defs.Nights.{Matches}
use Rattle.shunt_inputs.specs.declared.answers.Outcome.{Outcome}
use Rattle.shunt_inputs.specs.declared.answers.Outcome.TheVariants as outcome
use Rattle.shunt.specs.declared.status.Status.{Status}
use Rattle.shunt.specs.declared.status.Status.TheVariants as status
use Rattle.shunt.specs.defs.Calls.{Match}
use Rattle.shunt_inputs.specs.defs.Inputs.{Agrees, stated_night}
use Rattle.shunt_inputs.specs.defs.Replies.{Reply, Decided}
use Rattle.shunt_planning.specs.defs.Matched.{IsMatched}
use Rattle.shunt.specs.defs.Ends.{Seen, Ends, Yields, the_status}
use Rattle.shunt.proofs.Exactly.{completes, decides, has_reply, reply_at, EndsAs, paired_outcome, short_outcome}

judged_at : (x : Result Night (List ℕ)) (night : Night) (r : Reply) → x ≡ Ok night → Decided x IsMatched r → IsMatched night r
judged_at x night r e is = subst (λ x. Decided x IsMatched r) e is

none_outcome : (night : Night) (r : Reply) → ((place : List ℕ) → Matches night place → ⊥) → IsMatched night r → r.outcome ≡ outcome.NoMatching
none_outcome night r none (inl p) = absurd (none _ p.matches)
none_outcome night r none (inr p) = short_outcome night r p

some_outcome : (night : Night) (r : Reply) (place : List ℕ) → Matches night place → IsMatched night r → r.outcome ≡ outcome.Done
some_outcome night r place m (inl p) = paired_outcome night r p
some_outcome night r place m (inr p) = absurd (p.none place m)

pub no_matching_there : (s t : List ℕ) (old new : Seen) (x : Status) (files : Files) (night : Night) → old.files ≡ Some files
    → stated_night (content files s) (content files t) ≡ Ok night → ((place : List ℕ) → Matches night place → ⊥) → Ends (Match s t) old new x → (x ≡ status.NoMatching) ⊎ Yields x
no_matching_there s t old new x files night told ok none e = decides (Match s t) outcome.NoMatching old new x files told
    (λ r is. none_outcome night r none (judged_at (stated_night (content files s) (content files t)) night r ok is)) e

pub done_there : (s t : List ℕ) (old new : Seen) (x : Status) (files : Files) (night : Night) → old.files ≡ Some files → stated_night (content files s) (content files t) ≡ Ok night
    → ((place : List ℕ) × Matches night place) → Ends (Match s t) old new x → (x ≡ status.Done) ⊎ Yields x
done_there s t old new x files night told ok some e = decides (Match s t) outcome.Done old new x files told
    (λ r is. some_outcome night r some.0 some.1 (judged_at (stated_night (content files s) (content files t)) night r ok is)) e

-- what each outcome tells of the files
none_tells : (x : Result Night (List ℕ)) (r : Reply) → Decided x IsMatched r → r.outcome ≡ outcome.NoMatching
    → (night : Night) × (x ≡ Ok night) × ((place : List ℕ) → Matches night place → ⊥)
none_tells (Err text) r is o = absurd (let e : outcome.Input ≡ outcome.NoMatching = sym (ap (λ (r : Reply). r.outcome) is) ∙ o in cc)
none_tells (Ok night) r (inl p) o = absurd (let e : outcome.Done ≡ outcome.NoMatching = sym (paired_outcome night r p) ∙ o in cc)
none_tells (Ok night) r (inr p) o = (night, refl, p.none)

done_tells : (x : Result Night (List ℕ)) (r : Reply) → Decided x IsMatched r → r.outcome ≡ outcome.Done
    → (night : Night) × (x ≡ Ok night) × ((place : List ℕ) × Matches night place)
done_tells (Err text) r is o = absurd (let e : outcome.Input ≡ outcome.Done = sym (ap (λ (r : Reply). r.outcome) is) ∙ o in cc)
done_tells (Ok night) r (inl p) o = (night, refl, (_, p.matches))
done_tells (Ok night) r (inr p) o = absurd (let e : outcome.NoMatching ≡ outcome.Done = sym (short_outcome night r p) ∙ o in cc)

other_tells : (x : Result Night (List ℕ)) (r : Reply) (o : Outcome) → Decided x IsMatched r → r.outcome ≡ o → (o ≡ outcome.Done) ⊎ ((o ≡ outcome.NoMatching) ⊎ (o ≡ outcome.Input))
other_tells (Err text) r o is e = inr (inr (sym e ∙ ap (λ (r : Reply). r.outcome) is))
other_tells (Ok night) r o (inl p) e = inl (sym e ∙ paired_outcome night r p)
other_tells (Ok night) r o (inr p) e = inr (inl (sym e ∙ short_outcome night r p))

pub no_matching_only : (s t : List ℕ) (old new : Seen) → Ends (Match s t) old new status.NoMatching
    → (files : Files) × Agrees old.files files × ((night : Night) × (stated_night (content files s) (content files t) ≡ Ok night) × ((place : List ℕ) → Matches night place → ⊥))
no_matching_only s t old new e = let h = has_reply (Match s t) outcome.NoMatching old new e in (h.1.0, h.1.1, none_tells _ h.0 h.1.2 h.2)

pub done_only : (s t : List ℕ) (old new : Seen) → Ends (Match s t) old new status.Done
    → (files : Files) × Agrees old.files files × ((night : Night) × (stated_night (content files s) (content files t) ≡ Ok night) × ((place : List ℕ) × Matches night place))
done_only s t old new e = let h = has_reply (Match s t) outcome.Done old new e in (h.1.0, h.1.1, done_tells _ h.0 h.1.2 h.2)

never : (s t : List ℕ) (o : Outcome) (old new : Seen) → (o ≡ outcome.Done → ⊥) → (o ≡ outcome.NoMatching → ⊥) → (o ≡ outcome.Input → ⊥)
    → Ends (Match s t) old new (the_status o) → ⊥
never s t o old new a b d e = let h = has_reply (Match s t) o old new e in at (other_tells _ h.0 o h.1.2 h.2)
  where
    at : (o ≡ outcome.Done) ⊎ ((o ≡ outcome.NoMatching) ⊎ (o ≡ outcome.Input)) → ⊥
    at (inl e) = a e
    at (inr (inl e)) = b e
    at (inr (inr e)) = d e

pub no_findings : (s t : List ℕ) (old new : Seen) → Ends (Match s t) old new status.Findings → ⊥
no_findings s t old new e = never s t outcome.Findings old new (λ e. cc) (λ e. cc) (λ e. cc) e

pub no_unfinished : (s t : List ℕ) (old new : Seen) → Ends (Match s t) old new status.Unfinished → ⊥
no_unfinished s t old new e = never s t outcome.Unfinished old new (λ e. cc) (λ e. cc) (λ e. cc) e

-- ---- completeness

matched_status : (night : Night) (r : Reply) (x : Status) → x ≡ the_status r.outcome → IsMatched night r → (x ≡ status.Done) ⊎ (x ≡ status.NoMatching)
matched_status night r x e (inl p) = inl (e ∙ ap the_status (paired_outcome night r p))
matched_status night r x e (inr p) = inr (e ∙ ap the_status (short_outcome night r p))

abbrev EndsWell : Status → Type 0
EndsWell x = (x ≡ status.Done) ⊎ ((x ≡ status.NoMatching) ⊎ (x ≡ status.Memory))

well : (x : Status) → (x ≡ status.Done) ⊎ (x ≡ status.NoMatching) → EndsWell x
well x (inl e) = inl e
well x (inr e) = inr (inl e)

pub ends_well : (s t : List ℕ) (old new : Seen) (x : Status) (files : Files) (night : Night) → old.files ≡ Some files → stated_night (content files s) (content files t) ≡ Ok night
    → (Rose old.store_faults new.store_faults → ⊥) → (Rose old.sink_faults new.sink_faults → ⊥) → Ends (Match s t) old new x → EndsWell x
ends_well s t old new x files night told ok ns nk e = at (completes (Match s t) old new x ns nk e)
  where
    at : EndsAs (Match s t) old x → EndsWell x
    at (inl m) = inr (inr m)
    at (inr h) = well x (matched_status night h.0 x h.2 (judged_at (stated_night (content files s) (content files t)) night h.0 ok
        (reply_at (Match s t) old.files files h.0 told h.1)))
