-- The sum of a case at a path that covers the night.
use Rattle.std.specs.Prelude.{◌==◌, not, All, cond, sum_by, is_none, Option, Some, None, ◌*ℤ◌, ◌≤ℤ◌}
use Rattle.std.proofs.Common.{◌≡◌, ℕ, zero, suc, ◌+◌, ◌*◌, ◌≤◌, Bool, true, List, [], ◌∷◌, get_or, ℤ, pos, negsuc, ◌+ℤ◌, refl, sym, ap, ◌∙◌, arith}
use Rattle.std.proofs.Math.Nat.{mul-le-mul_left, mul-add, mul-zero}
use Rattle.std.proofs.lemmas.Int.{ints, clamps}
use Rattle.std.proofs.lemmas.Bool.Decides.{nat_tests}
use Rattle.std.proofs.lemmas.List.Sums.{sum_by-cons}
use Rattle.std.proofs.lemmas.List.Elements.{All-tail}
use Rattle.shunt_base.specs.declared.duals.Price.{Price}
use Rattle.shunt_base.specs.declared.duals.Case.{Case}
use Rattle.shunt_instance.specs.defs.Instance.{Night, unit_total, position_total}
use Rattle.shunt_blocks.specs.declared.records.Block.{Block}
use Rattle.shunt_blocks.specs.declared.records.Park.{Park}
use Rattle.shunt_blocks.specs.defs.Costs.{block_cost}
use Rattle.shunt_blocks.specs.defs.Lists.{Covers, total_cost}
use Rattle.shunt_choices.specs.defs.Paths.{masks_of}
use Rattle.shunt_choices.proofs.Given.{PlaceLaws}
use Rattle.shunt_prices.specs.defs.Sums.{sum_z}
use Rattle.shunt_prices.specs.defs.Prices.{most, counted, price_part, paid_at_most}
use Rattle.shunt_prices.specs.defs.Cases.{alpha_at, beta_at, surcharge, weight}
use Rattle.shunt_prices.specs.defs.Bounds.{unparked_in, most_surcharge, sum_at, uncovered_alphas, uncovered_betas}
use Rattle.shunt_prices.proofs.Signed.{sum_z_below-zero}
use Rattle.shunt_prices.proofs.Longer.{unit_mask, place_mask}
use Rattle.shunt_lists.proofs.Sums.{sum_by-same}

-- ---- weights

times_more : (m : ℤ) (n k : ℕ) → (m *ℤ pos (n + k)) ≡ (m *ℤ pos n) +ℤ (m *ℤ pos k)
times_more (pos a) n k = omega (arith, ints, mul-add a n k)
times_more (negsuc a) n k = omega (arith, ints, mul-add (suc a) n k)

times_none : (m : ℤ) → (m *ℤ pos 0) ≡ pos 0
times_none (pos a) = omega (arith, ints, mul-zero a)
times_none (negsuc a) = omega (arith, ints, mul-zero (suc a))

times_one : (m : ℤ) → (m *ℤ pos 1) ≡ m
times_one (pos a) = omega (arith, ints)
times_one (negsuc a) = omega (arith, ints)

surcharge_is : (m : ℤ) (park : Option Park) → surcharge m park ≡ m *ℤ pos (cond (is_none park) 1 0)
surcharge_is m None = sym (times_one m)
surcharge_is m (Some k) = sym (times_none m)

-- what the weights add up to: 1000 times the cost, the price parts, and the multiplier for each unparked block
pub weights_are : (night : Night) (c : Case) (path : List Block) → sum_z (weight night c) path
    ≡ pos (1000 * total_cost night path + sum_by (price_part night c.duals.prices) path) +ℤ (c.multiplier *ℤ pos (unparked_in path))
weights_are night c [] = omega (arith, ints, times_none c.multiplier)
weights_are night c (b ∷ path) =
    let count = sum_by-cons (λ (x : Block). cond (is_none x.park) 1 0) b path in
    let more : (c.multiplier *ℤ pos (unparked_in (b ∷ path))) ≡ (c.multiplier *ℤ pos (cond (is_none b.park) 1 0)) +ℤ (c.multiplier *ℤ pos (unparked_in path)) = ap
    (λ n. c.multiplier *ℤ pos n) count ∙ times_more c.multiplier (cond (is_none b.park) 1 0) (unparked_in path) in
    omega (
      arith,
      ints,
      weights_are night c path,
      sum_by-cons (block_cost night) b path,
      sum_by-cons (price_part night c.duals.prices) b path,
      more,
      surcharge_is c.multiplier b.park,
    )

-- ---- price parts

sum_by-none : {X : Type 0} (xs : List X) → sum_by (λ x. 0) xs ≡ zero
sum_by-none [] = refl
sum_by-none (x ∷ xs) = omega (arith, sum_by-cons (λ y. 0) x xs, sum_by-none xs)

pub sum_by-add : {X : Type 0} (f g : X → ℕ) (xs : List X) → sum_by (λ x. f x + g x) xs ≡ sum_by f xs + sum_by g xs
sum_by-add f g [] = refl
sum_by-add f g (x ∷ xs) = omega (arith, sum_by-cons (λ y. f y + g y) x xs, sum_by-cons f x xs, sum_by-cons g x xs, sum_by-add f g xs)

sum_by-times : {X : Type 0} (n : ℕ) (f : X → ℕ) (xs : List X) → sum_by (λ x. n * f x) xs ≡ n * sum_by f xs
sum_by-times n f [] = sym (mul-zero n)
sum_by-times n f (x ∷ xs) = omega (arith, sum_by-cons (λ y. n * f y) x xs, ap (λ k. n * k) (sum_by-cons f x xs), mul-add n (f x) (sum_by f xs), sum_by-times n f xs)

-- where what each price counts adds up to at most its most, the price parts add up to at most what the prices take
pub parts_paid : (night : Night) (prices : List Price) (blocks : List Block) → All (λ price. sum_by (counted night price) blocks ≤ most night price) prices
    → sum_by (price_part night prices) blocks ≤ paid_at_most night prices
parts_paid night [] blocks all = omega (arith, sum_by-none blocks)
parts_paid night (price ∷ prices) blocks all =
    let P : Price → Type 0 = λ p. sum_by (counted night p) blocks ≤ most night p in
    omega (
      arith,
      sum_by-same (price_part night (price ∷ prices)) (λ b. price.value * counted night price b + price_part night prices b) blocks
          (λ b. sum_by-cons (λ (p : Price). p.value * counted night p b) price prices),
      sum_by-add (λ b. price.value * counted night price b) (price_part night prices) blocks,
      sum_by-times price.value (counted night price) blocks,
      mul-le-mul_left price.value (all 0 price (omega arith)),
      sum_by-cons (λ (p : Price). p.value * most night p) price prices,
      parts_paid night prices blocks (All-tail P price prices all),
    )

-- ---- the surcharge

within_most : (m : ℤ) (from n to : ℕ) → from ≤ n → n ≤ to → (m *ℤ pos n) ≤ℤ most_surcharge m from to
within_most (pos a) from n to low high = omega (arith, ints, clamps, mul-le-mul_left a high)
within_most (negsuc a) from n to low high = omega (arith, ints, clamps, mul-le-mul_left (suc a) low)

-- ---- nothing is uncovered

module _ (places : PlaceLaws) (night : Night) (plan : List Block) (covers : Covers night plan) where
  hidden : (b : Bool) (z : ℤ) → b ≡ true → cond b (pos 0) z ≡ pos 0
  hidden b z e = ap (λ t. cond t (pos 0) z) e

  once : (n : ℕ) → n ≡ 1 → not (n == 0) ≡ true
  once n e = grind (arith, nat_tests)

  no_alphas : (c : Case) → uncovered_alphas night (masks_of night plan) c.duals ≡ pos 0
  no_alphas c = sum_z_below-zero (unit_total night) (λ u. cond (get_or (masks_of night plan).units u true) (pos 0) (alpha_at c.duals u))
      (λ u lt. hidden _ (alpha_at c.duals u) (unit_mask places night plan u lt ∙ once _ (covers.units u lt)))

  no_betas : (c : Case) → uncovered_betas night (masks_of night plan) c.duals ≡ pos 0
  no_betas c = sum_z_below-zero (position_total night) (λ v. cond (get_or (masks_of night plan).places v true) (pos 0) (beta_at c.duals v))
      (λ v lt. hidden _ (beta_at c.duals v) (place_mask places night plan v lt ∙ once _ (covers.positions v lt)))

  -- the sum of a case that speaks of the plan is at most 1000 times its cost
  pub whole_sum : (from : ℕ) (c : Case) → All (λ price. sum_by (counted night price) plan ≤ most night price) c.duals.prices → from ≤ unparked_in plan → unparked_in plan ≤ c.to
      → sum_at night plan from c ≤ℤ pos (1000 * total_cost night plan)
  whole_sum from c fits low high = omega (
    arith,
    ints,
    weights_are night c plan,
    parts_paid night c.duals.prices plan fits,
    within_most c.multiplier from (unparked_in plan) c.to low high,
    no_alphas c,
    no_betas c,
  )
