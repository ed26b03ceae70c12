-- What is offered as blocks of a stack, and which of it brings something.
use Rattle.std.specs.Prelude.{◌<ℤ◌, ◌≤ℤ◌}
use Rattle.std.proofs.Common.{◌≡◌, ⊎_elim, inl, ℕ, ◌+◌, ◌<◌, List, [], ◌∷◌, ◌++◌, length, take, get_or, ℤ, pos, refl, sym, subst, ap, arith}
use Rattle.std.proofs.lemmas.List.{take_more}
use Rattle.std.proofs.lemmas.Int.{ints}
use Rattle.shunt_lists.proofs.Members.{in_left, in_right, in_cases}
use Rattle.shunt_instance.specs.defs.Instance.{Night}
use Rattle.shunt_dual.specs.declared.case_offers.Offer.{Offer}
use Rattle.shunt_stacks.specs.defs.Stacks.{Stack}
use Rattle.shunt_fillings.specs.declared.candidates.Candidate.{Candidate}
use Rattle.shunt_fillings.specs.defs.Pieces.{candidate_on, Brings, AreTaken}

module _ (night : Night) (stack : Stack) where
  pub none_taken : AreTaken night stack [] []
  none_taken = record { each = λ k none. absurd none; all = λ o none. absurd none }

  pub one_taken : (o : Offer) → Brings night stack o → AreTaken night stack (o ∷ []) (candidate_on night stack o ∷ [])
  one_taken o brings = record {
    each = λ k i. ⊎_elim (λ e. (o, inl refl, e, brings)) (λ none. absurd none) i;
    all = λ p i b. ⊎_elim (λ e. inl (ap (candidate_on night stack) e)) (λ none. absurd none) i;
  }

  pub not_taken : (o : Offer) → (Brings night stack o → ⊥) → AreTaken night stack (o ∷ []) []
  not_taken o not = record { each = λ k none. absurd none; all = λ p i brings. ⊎_elim (λ e. not (subst (Brings night stack) e brings)) (λ none. absurd none) i }

  pub more_taken : (os ps : List Offer) (ks ls : List Candidate) → AreTaken night stack os ks → AreTaken night stack ps ls → AreTaken night stack (os ++ ps) (ks ++ ls)
  more_taken os ps ks ls first later = record {
    each = λ k i. ⊎_elim
        (λ here. let h = first.each k here in (h.0, in_left os ps h.0 h.1, h.2, h.3))
        (λ there. let h = later.each k there in (h.0, in_right os ps h.0 h.1, h.2, h.3))
        (in_cases ks ls k i);
    all = λ o i brings. ⊎_elim
        (λ here. in_left ks ls (candidate_on night stack o) (first.all o here brings))
        (λ there. in_right ks ls (candidate_on night stack o) (later.all o there brings))
        (in_cases os ps o i);
  }

  pub next_taken : (offers : List Offer) (i : ℕ) (d : Offer) (ks added new : List Candidate) → i < length offers → new ≡ ks ++ added → AreTaken night stack (take i offers) ks →
      AreTaken night stack (get_or offers i d ∷ []) added → AreTaken night stack (take (i + 1) offers) new
  next_taken offers i d ks added new lt e before own = subst (AreTaken night stack (take (i + 1) offers)) (sym e)
      (subst (λ (os : List Offer). AreTaken night stack os (ks ++ added)) (sym (take_more offers i d lt)) (more_taken (take i offers) (get_or offers i d ∷ []) ks added before own))

-- what is above 0 isn't at most 0
pub poor : (z g : ℤ) → pos 0 <ℤ z → g ≡ z → g ≤ℤ pos 0 → ⊥
poor z g more is le = omega (arith, ints, more, is, le)
