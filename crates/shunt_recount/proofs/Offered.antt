-- Free shapes, candidates and offers, one after another.
use Rattle.std.specs.Prelude.{◌<ℤ◌, ◌≤ℤ◌, All}
use Rattle.std.proofs.Common.{◌≡◌, ⊎_elim, inl, List, [], ◌∷◌, ◌++◌, ℤ, pos, refl, sym, ap, subst, ◌∙◌, arith}
use Rattle.std.proofs.lemmas.Int.{ints}
use Rattle.shunt_lists.specs.defs.Members.{In}
use Rattle.shunt_lists.proofs.Members.{in_left, in_right, in_cases, of_one, to_all as from_members}
use Rattle.shunt_base.specs.declared.duals.Case.{Case}
use Rattle.shunt_instance.specs.defs.Instance.{Night}
use Rattle.shunt_blocks.specs.declared.records.Shape.{Shape}
use Rattle.shunt_blocks.specs.defs.Shapes.{AreRunsWithin}
use Rattle.shunt_choices.specs.defs.Paths.{Masks}
use Rattle.shunt_choices.specs.defs.Choices.{AreFreeShapes}
use Rattle.shunt_prices.specs.defs.Cases.{duals_over}
use Rattle.shunt_stacks.specs.defs.Stacks.{Stack}
use Rattle.shunt_recount.specs.declared.candidates.Candidate.{Candidate}
use Rattle.shunt_recount.specs.declared.offers.Offer.{Offer}
use Rattle.shunt_recount.specs.defs.Offers.{IsCandidate, AreCandidatesOf, Gains, IsOffer, AreOffersFor, block_on}

-- ---- shapes

module _ (night : Night) (covered : Masks) where
  pub all_within : (shapes : List Shape) → AreFreeShapes night covered shapes → All (AreRunsWithin night) shapes
  all_within shapes h = from_members (AreRunsWithin night) shapes (λ s i. (h.each s i).shape.within)

-- ---- candidates

module _ (night : Night) (c : Case) where
  pub no_candidates : AreCandidatesOf night c [] []
  no_candidates = record { each = λ k none. absurd none; all = λ s none. absurd none }

  less : (z : ℤ) → pos 0 <ℤ z → z ≤ℤ pos 0 → ⊥
  less z lt low = omega (arith, ints, lt, low)

  module _ (shapes : List Shape) (ks : List Candidate) (k : Candidate) (s : Shape) (is : IsCandidate night c k) (same : k.shape ≡ s) (h : AreCandidatesOf night c shapes ks) where
    pub more_candidates : AreCandidatesOf night c (shapes ++ s ∷ []) (ks ++ k ∷ [])
    more_candidates = record {
      each = λ x i. ⊎_elim
          (λ (left : In x ks). let p = h.each x left in (p.0, in_left shapes (s ∷ []) x.shape p.1))
          (λ (right : In x (k ∷ [])).
          let e = of_one k x right in (
            subst (IsCandidate night c) (sym e) is,
            in_right shapes (s ∷ []) x.shape (inl (ap (λ (y : Candidate). y.shape) e ∙ same)),
          ))
          (in_cases ks (k ∷ []) x i);
      all = λ t i worth. ⊎_elim
          (λ (left : In t shapes). let p = h.all t left worth in (p.0, in_left ks (k ∷ []) p.0 p.1, p.2))
          (λ (right : In t (s ∷ [])). (k, in_right ks (k ∷ []) k (inl refl), same ∙ sym (of_one s t right)))
          (in_cases shapes (s ∷ []) t i);
    }

    pub fewer_candidates : k.worth ≤ℤ pos 0 → AreCandidatesOf night c (shapes ++ s ∷ []) ks
    fewer_candidates low = record {
      each = λ x i. let p = h.each x i in (p.0, in_left shapes (s ∷ []) x.shape p.1);
      all = λ t i worth. ⊎_elim
          (λ (left : In t shapes). h.all t left worth)
          (λ (right : In t (s ∷ [])).
          let e : k.shape ≡ t = same ∙ sym (of_one s t right) in
          absurd (less k.worth (subst (λ (z : ℤ). pos 0 <ℤ z) (sym (is.worth ∙ ap (duals_over night c.duals) e)) worth) low))
          (in_cases shapes (s ∷ []) t i);
    }

  -- ---- offers

  module _ (stack : Stack) where
    pub no_offers : AreOffersFor night c stack [] []
    no_offers = record { each = λ o none. absurd none; all = λ k none. absurd none }

    pub more_offers : (ks : List Candidate) (os : List Offer) (k : Candidate) (o : Offer) → IsOffer night c stack k.shape o → AreOffersFor night c stack ks os
        → AreOffersFor night c stack (ks ++ k ∷ []) (os ++ o ∷ [])
    more_offers ks os k o is h = record {
      each = λ x i. ⊎_elim
          (λ (left : In x os). let p = h.each x left in (p.0, in_left ks (k ∷ []) p.0 p.1, p.2))
          (λ (right : In x (o ∷ [])). (k, in_right ks (k ∷ []) k (inl refl), subst (IsOffer night c stack k.shape) (sym (of_one o x right)) is))
          (in_cases os (o ∷ []) x i);
      all = λ x i gains. ⊎_elim
          (λ (left : In x ks). let p = h.all x left gains in (p.0, in_left os (o ∷ []) p.0 p.1, p.2))
          (λ (right : In x (k ∷ [])). (o, in_right os (o ∷ []) o (inl refl), is.block ∙ ap (λ (y : Candidate). block_on stack y.shape) (sym (of_one k x right))))
          (in_cases ks (k ∷ []) x i);
    }

    pub fewer_offers : (ks : List Candidate) (os : List Offer) (k : Candidate) → (Gains night c stack k.shape → ⊥) → AreOffersFor night c stack ks os
        → AreOffersFor night c stack (ks ++ k ∷ []) os
    fewer_offers ks os k not h = record {
      each = λ x i. let p = h.each x i in (p.0, in_left ks (k ∷ []) p.0 p.1, p.2);
      all = λ x i gains. ⊎_elim
          (λ (left : In x ks). h.all x left gains)
          (λ (right : In x (k ∷ [])). absurd (not (subst (λ (y : Candidate). Gains night c stack y.shape) (of_one k x right) gains)))
          (in_cases ks (k ∷ []) x i);
    }
