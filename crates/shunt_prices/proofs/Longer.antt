-- One block more on a path: cases still hold, and their sums don't fall.
use Rattle.std.specs.Prelude.{◌==◌, ◌||◌, not, cond, ◌-ℤ◌, ◌≤ℤ◌}
use Rattle.std.proofs.Common.{◌≡◌, ℕ, ◌+◌, ◌-◌, ◌<◌, ◌≤◌, Bool, true, false, List, [], ◌∷◌, ◌++◌, get_or, ℤ, pos, ◌+ℤ◌, refl, sym, ap, ◌∙◌, arith}
use Rattle.std.proofs.lemmas.Int.{ints}
use Rattle.std.proofs.lemmas.Bool.{false≢true}
use Rattle.std.proofs.lemmas.Bool.Decides.{nat_tests}
use Rattle.std.proofs.lemmas.List.FromFn.{get_or-map-range_with_len}
use Rattle.shunt_base.specs.declared.duals.Case.{Case}
use Rattle.shunt_instance.specs.defs.Instance.{Night, unit_total, position_total}
use Rattle.shunt_blocks.specs.declared.records.Shape.{Shape}
use Rattle.shunt_blocks.specs.declared.records.Block.{Block}
use Rattle.shunt_blocks.specs.defs.Shapes.{shape_of, unit_from, position_from, AreRunsWithin}
use Rattle.shunt_blocks.specs.defs.Lists.{has_unit, has_position, times_unit, times_position}
use Rattle.shunt_choices.specs.defs.Paths.{masks_of}
use Rattle.shunt_choices.specs.defs.Choices.{IsFreeShape}
use Rattle.shunt_choices.proofs.Given.{PlaceLaws}
use Rattle.shunt_choices.proofs.Masks.{unit_more, position_more}
use Rattle.shunt_choices.proofs.Trails.{not_taken}
use Rattle.shunt_choices.proofs.Grown.{left_free}
use Rattle.shunt_prices.specs.defs.Sums.{sum_z_below}
use Rattle.shunt_prices.specs.defs.Cases.{alpha_at, beta_at, duals_over, weight, IsFreeBlock, HasRoom, HoldsInCase, CasesHold}
use Rattle.shunt_prices.specs.defs.Bounds.{sum_at, uncovered_alphas, uncovered_betas}
use Rattle.shunt_prices.proofs.Signed.{sum_z_push, sum_z_below-same, sum_z_below-add, is_within, window}
use Rattle.shunt_blocks.proofs.Shapes.{has_from, has_position_from}

-- ---- what is uncovered

-- the values that are left out before are those left out after and those of a run
less_uncovered : (n from m : ℕ) (before after : ℕ → Bool) (value : ℕ → ℤ) → from + m ≤ n
    → ((i : ℕ) → i < n → after i ≡ (before i || is_within from m i)) → ((i : ℕ) → i < n → is_within from m i ≡ true → before i ≡ false)
    → sum_z_below n (λ i. cond (before i) (pos 0) (value i)) ≡ sum_z_below n (λ i. cond (after i) (pos 0) (value i)) +ℤ sum_z_below m (λ k. value (from + k))
less_uncovered n from m before after value le more free =
    sum_z_below-same n _ _ (λ i lt. parts (before i) (after i) (is_within from m i) (value i) (more i lt) (free i lt))
    ∙ sum_z_below-add n (λ i. cond (after i) (pos 0) (value i)) (λ i. cond (is_within from m i) (value i) (pos 0))
    ∙ ap (λ z. sum_z_below n (λ i. cond (after i) (pos 0) (value i)) +ℤ z) (window n from m value le)
  where
    parts : (b a w : Bool) (z : ℤ) → a ≡ (b || w) → (w ≡ true → b ≡ false) → cond b (pos 0) z ≡ cond a (pos 0) z +ℤ cond w z (pos 0)
    parts true a true z e h = absurd (false≢true (sym (h refl)))
    parts true true false z e h = refl
    parts true false false z e h = absurd (false≢true e)
    parts false true true z e h = omega (arith, ints)
    parts false false true z e h = absurd (false≢true e)
    parts false true false z e h = absurd (false≢true (sym e))
    parts false false false z e h = omega (arith, ints)

covered_more : (has : Bool) (times now : ℕ) → now ≡ times + cond has 1 0 → not (now == 0) ≡ (not (times == 0) || has)
covered_more true times now e = grind (arith, nat_tests)
covered_more false times now e = grind (arith, nat_tests)

module _ (places : PlaceLaws) (night : Night) where
  unit_end : (s : Shape) → AreRunsWithin night s → unit_from night s + s.n ≤ unit_total night
  unit_end s r = let lt = places.unit_in night s (unit_from night s + (s.n - 1)) r (record { from = omega arith; to = omega (arith, r.n) }) in omega (arith, lt, r.n)

  position_end : (s : Shape) → AreRunsWithin night s → position_from night s + s.n ≤ position_total night
  position_end s r = let lt = places.position_in night s (position_from night s + (s.n - 1)) r (record { from = omega arith; to = omega (arith, r.n) }) in omega (arith, lt, r.n)

  pub unit_mask : (path : List Block) (u : ℕ) → u < unit_total night → get_or (masks_of night path).units u true ≡ not (times_unit night path u == 0)
  unit_mask path u lt = get_or-map-range_with_len (λ w. not (times_unit night path w == 0)) 0 (unit_total night) u u true lt (omega arith)

  pub place_mask : (path : List Block) (v : ℕ) → v < position_total night → get_or (masks_of night path).places v true ≡ not (times_position night path v == 0)
  place_mask path v lt = get_or-map-range_with_len (λ w. not (times_position night path w == 0)) 0 (position_total night) v v true lt (omega arith)

  -- ---- cases still hold

  still_free : (path : List Block) (b : Block) (u : ℕ) (s : Shape) → IsFreeShape night (masks_of night (path ++ b ∷ [])) u s → IsFreeShape night (masks_of night path) u s
  still_free path b u s h = record {
    shape = h.shape;
    first = h.first;
    units = λ w has. let lt = places.unit_in night s w h.shape.within has in
        left_free (times_unit night path) (unit_total night) w true lt (omega (
          arith,
          unit_more night path b w,
          not_taken (times_unit night (path ++ b ∷ [])) (unit_total night) w true lt (h.units w has),
        ));
    positions = λ v has. let lt = places.position_in night s v h.shape.within has in
        left_free (times_position night path) (position_total night) v true lt (omega
        (arith, position_more night path b v, not_taken (times_position night (path ++ b ∷ [])) (position_total night) v true lt (h.positions v has)));
  }

  pub cases_stay : (path : List Block) (b : Block) (cases : List Case) → CasesHold night path cases → CasesHold night (path ++ b ∷ []) cases
  cases_stay path b cases all k d lt = record {
    holds = λ s park free room. (all k d lt).holds s park
        (record { shape = still_free path b (unit_from night s) s free.shape; option = free.option }) room;
  }

  -- ---- the sum of a case

  module _ (path : List Block) (b : Block) (free : IsFreeBlock night (masks_of night path) (shape_of b) b.park) where
    fewer_alphas : (c : Case) → uncovered_alphas night (masks_of night path) c.duals
        ≡ uncovered_alphas night (masks_of night (path ++ b ∷ [])) c.duals +ℤ sum_z_below b.n (λ k. alpha_at c.duals (unit_from night (shape_of b) + k))
    fewer_alphas c = less_uncovered (unit_total night) (unit_from night (shape_of b)) b.n (λ u. get_or (masks_of night path).units u true)
        (λ u. get_or (masks_of night (path ++ b ∷ [])).units u true) (alpha_at c.duals)
        (unit_end (shape_of b) free.shape.shape.within)
        (λ u lt. unit_mask (path ++ b ∷ []) u lt ∙ covered_more (has_unit night (shape_of b) u) (times_unit night path u) (times_unit night (path ++ b ∷ []) u)
        (unit_more night path b u) ∙ ap (λ t. t || has_unit night (shape_of b) u) (sym (unit_mask path u lt)))
        (λ u lt has. free.shape.units u (has_from night b u has))

    fewer_betas : (c : Case) → uncovered_betas night (masks_of night path) c.duals
        ≡ uncovered_betas night (masks_of night (path ++ b ∷ [])) c.duals +ℤ sum_z_below b.n (λ k. beta_at c.duals (position_from night (shape_of b) + k))
    fewer_betas c = less_uncovered (position_total night) (position_from night (shape_of b)) b.n (λ v. get_or (masks_of night path).places v true)
        (λ v. get_or (masks_of night (path ++ b ∷ [])).places v true) (beta_at c.duals)
        (position_end (shape_of b) free.shape.shape.within)
        (λ v lt. place_mask (path ++ b ∷ []) v lt ∙ covered_more (has_position night (shape_of b) v) (times_position night path v) (times_position night (path ++ b ∷ []) v)
        (position_more night path b v) ∙ ap (λ t. t || has_position night (shape_of b) v) (sym (place_mask path v lt)))
        (λ v lt has. free.shape.positions v (has_position_from night b v has))

    -- the sum grows by what the block weighs more than its duals
    pub sum_step : (from : ℕ) (c : Case) → sum_at night (path ++ b ∷ []) from c ≡ sum_at night path from c +ℤ (weight night c b -ℤ duals_over night c.duals (shape_of b))
    sum_step from c = omega (arith, ints, sum_z_push (weight night c) path b, fewer_alphas c, fewer_betas c)

    pub sum_rises : (from : ℕ) (c : Case) → HasRoom night (shape_of b) b.park → HoldsInCase night (masks_of night path) c
        → sum_at night path from c ≤ℤ sum_at night (path ++ b ∷ []) from c
    sum_rises from c room h = omega (arith, ints, sum_step from c, h.holds (shape_of b) b.park free room)
