-- What shapes offer, shape by shape, and that it is what blocks gain.
use Rattle.std.specs.Prelude.{◌≤ℤ◌, ◌<ℤ◌, ◌-ℤ◌, Option, Some}
use Rattle.std.proofs.Common.{◌≡◌, ⊎_elim, inl, ℕ, ◌+◌, ◌*◌, ◌<◌, ◌≤◌, List, [], ◌∷◌, ◌++◌, ℤ, pos, ◌+ℤ◌, refl, sym, subst, ap, ◌∙◌, arith}
use Rattle.std.proofs.lemmas.Int.{ints}
use Rattle.shunt_lists.specs.defs.Members.{In}
use Rattle.shunt_lists.proofs.Members.{in_left, in_right, in_cases}
use Rattle.shunt_base.specs.declared.duals.Duals.{Duals}
use Rattle.shunt_base.specs.declared.duals.Case.{Case}
use Rattle.shunt_instance.specs.defs.Instance.{Night}
use Rattle.shunt_blocks.specs.declared.records.Shape.{Shape}
use Rattle.shunt_blocks.specs.declared.records.Block.{Block}
use Rattle.shunt_blocks.specs.declared.records.Park.{Park}
use Rattle.shunt_blocks.specs.defs.Shapes.{shape_of}
use Rattle.shunt_blocks.specs.defs.Blocks.{IsParkable}
use Rattle.shunt_blocks.specs.defs.Costs.{cost_with}
use Rattle.shunt_prices.specs.defs.Prices.{price_part_with}
use Rattle.shunt_prices.specs.defs.Cases.{duals_over, weight_with}
use Rattle.shunt_stacks.specs.defs.Fillings.{gain}
use Rattle.shunt_dual.specs.declared.case_offers.Offer.{Offer}
use Rattle.shunt_dual.specs.defs.Asks.{weight_of}
use Rattle.shunt_dual.specs.defs.Offers.{IsOffer, IsSmallOffer, AreOffers, offered}

module _ (night : Night) (d : Duals) where
  pub no_offers : AreOffers night d [] []
  no_offers = record { each = λ o none. absurd none; all = λ s k none. absurd none }

  pub one_offer : (s : Shape) (o : Offer) → o.shape ≡ s → IsOffer night d o → IsSmallOffer night o → AreOffers night d (s ∷ []) (o ∷ [])
  one_offer s o e is small = record {
    each = λ p i. ⊎_elim
        (λ (same : p ≡ o). subst (λ (q : Offer). In q.shape (s ∷ []) × IsOffer night d q × IsSmallOffer night q) (sym same) (inl e, is, small))
        (λ none. absurd none)
        i;
    all = λ t k i can more. ⊎_elim (λ (same : t ≡ s). (o, inl refl, e ∙ sym same)) (λ none. absurd none) i;
  }

  heavy : (s : Shape) (k : Park) (worth : ℤ) (least : ℕ) → worth ≡ duals_over night d s → worth ≤ℤ pos least → least ≤ 1000 * cost_with night s (Some k)
      → pos (weight_of night d.prices s (Some k)) <ℤ duals_over night d s → ⊥
  heavy s k worth least is low le more = omega (arith, ints, is, low, le, more)

  pub not_offered : (s : Shape) (worth : ℤ) (least : ℕ) → worth ≡ duals_over night d s → worth ≤ℤ pos least
      → ((k : Park) → IsParkable night s k → least ≤ 1000 * cost_with night s (Some k)) → AreOffers night d (s ∷ []) []
  not_offered s worth least is low under = record {
    each = λ o none. absurd none;
    all = λ t k i can more. absurd (⊎_elim
        (λ (same : t ≡ s). heavy s k worth least is low (under k (subst (λ (w : Shape). IsParkable night w k) same can))
        (subst (λ (w : Shape). pos (weight_of night d.prices w (Some k)) <ℤ duals_over night d w) same more))
        (λ none. absurd none)
        i);
  }

  pub more_offers : (ss ts : List Shape) (os ps : List Offer) → AreOffers night d ss os → AreOffers night d ts ps → AreOffers night d (ss ++ ts) (os ++ ps)
  more_offers ss ts os ps first later = record {
    each = λ o i. ⊎_elim
        (λ here. let h = first.each o here in (in_left ss ts o.shape h.0, h.1, h.2))
        (λ there. let h = later.each o there in (in_right ss ts o.shape h.0, h.1, h.2))
        (in_cases os ps o i);
    all = λ s k i can more. ⊎_elim
        (λ here. let h = first.all s k here can more in (h.0, in_left os ps h.0 h.1, h.2))
        (λ there. let h = later.all s k there can more in (h.0, in_right os ps h.0 h.1, h.2))
        (in_cases ss ts s i);
  }

-- what is offered of a shape on a track is what its block gains there
module _ (night : Night) (c : Case) where
  abbrev with_option : Shape → Option Park → ℤ
  with_option s park = duals_over night c.duals s -ℤ weight_with night c s park

  pub offered_is : (o : Offer) (k : Park) (b : Block) → IsOffer night c.duals o → k.track.0 < 60 → shape_of b ≡ o.shape → b.park ≡ Some k → offered night o k ≡ gain night c b
  offered_is o k b is few same park =
      let there : offered night o k ≡ duals_over night c.duals o.shape -ℤ (pos (1000 * cost_with night o.shape (Some k) + price_part_with night c.duals.prices o.shape (Some k)) +ℤ
      pos 0) = omega (arith, ints, is.worth, is.charges k few) in
      there ∙ (ap (λ (s : Shape). with_option s (Some k)) (sym same) ∙ ap (λ (p : Option Park). with_option (shape_of b) p) (sym park))
