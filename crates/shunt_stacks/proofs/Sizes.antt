-- How large the gains of fillings and of stacks become, and sums with stacks.
use Rattle.std.specs.Prelude.{All, cond, sum_by, Option, Some, None, ◌-ℤ◌, ◌≤ℤ◌}
use Rattle.std.specs.List.{AllZip}
use Rattle.std.proofs.Common.{◌≡◌, ⊎_elim, ℕ, zero, suc, ◌+◌, ◌-◌, ◌*◌, ◌≤◌, Bool, true, false, List, [], ◌∷◌, ◌++◌, length, get_or, ℤ, pos, ◌+ℤ◌, refl, sym, subst, ◌∙◌, arith}
use Rattle.std.proofs.lemmas.Int.{ints}
use Rattle.std.proofs.lemmas.Bool.{cases_lt, false≢true}
use Rattle.std.proofs.lemmas.List.{get_or_past}
use Rattle.std.proofs.lemmas.List.Sums.{sum_by-cons}
use Rattle.std.proofs.lemmas.List.Elements.{All-tail}
use Rattle.shunt_base.specs.declared.duals.Case.{Case}
use Rattle.shunt_instance.specs.defs.Instance.{Night, IsInstance, unit_total}
use Rattle.shunt_blocks.specs.declared.records.Shape.{Shape}
use Rattle.shunt_blocks.specs.declared.records.Block.{Block}
use Rattle.shunt_blocks.specs.declared.records.Park.{Park}
use Rattle.shunt_blocks.specs.defs.Shapes.{shape_of, unit_from, position_from, AreRunsWithin, IsWithinTrains}
use Rattle.shunt_blocks.specs.defs.Lists.{has_unit, times_unit, ShareNothing, RunsThrough, placed}
use Rattle.shunt_choices.proofs.Given.{PlaceLaws}
use Rattle.shunt_prices.specs.defs.Sums.{sum_z, sum_z_below, IsWithin}
use Rattle.shunt_prices.specs.defs.Limits.{IsValue, IsCase}
use Rattle.shunt_prices.specs.defs.Cases.{alpha_at, beta_at, duals_over, weight_with}
use Rattle.shunt_prices.proofs.Signed.{sum_z_below-same, sum_z_below-zero, sum_z_below-add, window}
use Rattle.shunt_prices.proofs.Sizes.{both_within, nothing_within, sum_z_below-within}
use Rattle.shunt_stacks.specs.defs.Stacks.{Stack, is_of}
use Rattle.shunt_stacks.specs.defs.Bounds.{IsFall}
use Rattle.shunt_stacks.specs.defs.Fillings.{gain, gain_of, IsFilling, IsStackGain}
use Rattle.shunt_stacks.proofs.Parts.{PartLaw, is_block}
use Rattle.shunt_stacks.proofs.Filled.{at_least_zero}
use Rattle.shunt_blocks.proofs.Shapes.{is_within}

-- ---- blocks that share nothing have few units

flags : (t : Bool) (n m : ℕ) → m ≡ cond t 1 0 + n → pos m ≡ cond t (pos 1) (pos 0) +ℤ pos n
flags true n m e = omega (arith, ints, e)
flags false n m e = omega (arith, ints, e)

ones : (n : ℕ) → sum_z_below n (λ k. pos 1) ≡ pos n
ones zero = refl
ones (suc n) = omega (arith, ints, ones n)

at_most_one : (n : ℕ) (f : ℕ → ℕ) → ((i : ℕ) → f i ≤ 1) → sum_z_below n (λ i. pos (f i)) ≤ℤ pos n
at_most_one zero f few = omega (arith, ints)
at_most_one (suc n) f few = omega (arith, ints, few n, at_most_one n f few)

module _ (places : PlaceLaws) (night : Night) where
  unit_end : (s : Shape) → AreRunsWithin night s → unit_from night s + s.n ≤ unit_total night
  unit_end s r = let lt = places.unit_in night s (unit_from night s + (s.n - 1)) r (record { from = omega arith; to = omega (arith, r.n) }) in omega (arith, lt, r.n)

  units_in : (blocks : List Block) → All (IsWithinTrains night) blocks → sum_z_below (unit_total night) (λ u. pos (times_unit night blocks u))
      ≡ pos (sum_by (λ (b : Block). b.n) blocks)
  units_in [] all = sum_z_below-zero (unit_total night) (λ u. pos 0) (λ i lt. refl)
  units_in (b ∷ blocks) all =
      let s = shape_of b in
      let parts = sum_z_below-same (unit_total night) (λ u. pos (times_unit night (b ∷ blocks) u))
      (λ u. cond (has_unit night s u) (pos 1) (pos 0) +ℤ pos (times_unit night blocks u))
      (λ u lt. flags (has_unit night s u) (times_unit night blocks u) (times_unit night (b ∷ blocks) u)
      (sum_by-cons (λ (x : Block). cond (has_unit night (shape_of x) u) 1 0) b blocks)) in
      let sums = sum_z_below-add (unit_total night) (λ u. cond (has_unit night s u) (pos 1) (pos 0)) (λ u. pos (times_unit night blocks u)) in
      let own = window (unit_total night) (unit_from night s) b.n (λ u. pos 1) (unit_end s (all 0 b (omega arith)).runs) ∙ ones b.n in
      parts ∙ sums ∙ added _ _ b.n (sum_by (λ (x : Block). x.n) blocks) _ own (units_in blocks (All-tail (IsWithinTrains night) b blocks all))
      (sum_by-cons (λ (x : Block). x.n) b blocks)
    where
      added : (x y : ℤ) (n m k : ℕ) → x ≡ pos n → y ≡ pos m → k ≡ n + m → x +ℤ y ≡ pos k
      added x y n m k e f g = omega (arith, ints, e, f, g)

  few_units : (blocks : List Block) → All (IsWithinTrains night) blocks → ShareNothing night blocks → sum_by (λ (b : Block). b.n) blocks ≤ unit_total night
  few_units blocks all apart =
      less (sum_z_below (unit_total night) (λ u. pos (times_unit night blocks u))) _ _ (units_in blocks all) (at_most_one (unit_total night) (times_unit night blocks) apart.units)
    where
      less : (z : ℤ) (n m : ℕ) → z ≡ pos n → z ≤ℤ pos m → n ≤ m
      less z n m e le = omega (arith, ints, e, le)

-- ---- fillings

at_within : (zs : List ℤ) (i : ℕ) → All IsValue zs → IsWithin 999999999999 (get_or zs i (pos 0))
at_within zs i all = ⊎_elim
    (λ lt. let v = all i (pos 0) lt in record { low = v.low; high = v.high })
    (λ le. subst (IsWithin 999999999999) (sym (get_or_past zs i (pos 0) le)) (nothing_within 999999999999))
    (cases_lt i (length zs))

module _ (night : Night) (c : Case) (is : IsCase night c) (stack : Stack) where
  over_units : (s : Shape) → IsWithin (s.n * 999999999999 + s.n * 999999999999) (duals_over night c.duals s)
  over_units s = both_within (s.n * 999999999999) (s.n * 999999999999) _ _
      (sum_z_below-within s.n 999999999999 (λ k. alpha_at c.duals (unit_from night s + k)) (λ i lt. at_within c.duals.alpha (unit_from night s + i) is.duals.alphas_in))
      (sum_z_below-within s.n 999999999999 (λ k. beta_at c.duals (position_from night s + k)) (λ i lt. at_within c.duals.beta (position_from night s + i) is.duals.betas_in))

  -- what is parked weighs no less than 0
  parked_weighs : (s : Shape) (park : Option Park) → is_of stack park ≡ true → pos 0 ≤ℤ weight_with night c s park
  parked_weighs s None of = absurd (false≢true of)
  parked_weighs s (Some k) of = omega (arith, ints)

  block_small : (b : Block) → is_of stack b.park ≡ true → gain night c b ≤ℤ pos (1999999999998 * b.n)
  block_small b of = small (duals_over night c.duals (shape_of b)) (weight_with night c (shape_of b) b.park) b.n (over_units (shape_of b)).high
      (parked_weighs (shape_of b) b.park of)
    where
      small : (d w : ℤ) (n : ℕ) → d ≤ℤ pos (n * 999999999999 + n * 999999999999) → pos 0 ≤ℤ w → (d -ℤ w) ≤ℤ pos (1999999999998 * n)
      small d w n le some = omega (arith, ints, le, some)

  blocks_small : (filling : List Block) → All (λ (b : Block). is_of stack b.park ≡ true) filling
      → gain_of night c filling ≤ℤ pos (1999999999998 * sum_by (λ (b : Block). b.n) filling)
  blocks_small [] all = omega (arith, ints)
  blocks_small (b ∷ filling) all =
      more (gain night c b) (gain_of night c filling) b.n (sum_by (λ (x : Block). x.n) filling) (sum_by (λ (x : Block). x.n) (b ∷ filling)) (block_small b (all 0 b (omega arith)))
      (blocks_small filling (All-tail (λ (x : Block). is_of stack x.park ≡ true) b filling all)) (sum_by-cons (λ (x : Block). x.n) b filling)
    where
      more : (x y : ℤ) (n m k : ℕ) → x ≤ℤ pos (1999999999998 * n) → y ≤ℤ pos (1999999999998 * m) → k ≡ n + m → (x +ℤ y) ≤ℤ pos (1999999999998 * k)
      more x y n m k e f g = omega (arith, ints, e, f, g)

  pub filling_small : (places : PlaceLaws) → unit_total night ≤ 160 → (path filling : List Block) → IsFilling night path stack filling
      → gain_of night c filling ≤ℤ pos 319999999999680
  filling_small places few path filling fill =
      let all : All (IsWithinTrains night) filling = λ k d lt. is_within night (get_or filling k d) (is_block places night path (get_or filling k d) (fill.free k d lt)) in
      small (gain_of night c filling) (sum_by (λ (b : Block). b.n) filling) (blocks_small filling fill.own) (few_units places night filling all fill.apart)
    where
      small : (x : ℤ) (n : ℕ) → x ≤ℤ pos (1999999999998 * n) → n ≤ unit_total night → x ≤ℤ pos 319999999999680
      small x n le units = omega (arith, ints, le, units, few)

-- ---- stacks

module _ (places : PlaceLaws) (law : PartLaw) (night : Night) (i : IsInstance night) (few : unit_total night ≤ 160) (path : List Block) (within : All (IsWithinTrains night) path)
    (apart : ShareNothing night path) (go : RunsThrough night (placed path)) (c : Case) (is : IsCase night c) where
  pub gain_small : (stack : Stack) (most : ℤ) → IsStackGain night path c stack most → IsWithin 319999999999680 most
  gain_small stack most g =
      ends most (gain_of night c g.filling) g.has (at_least_zero law night i path within apart c stack most go g) (filling_small night c is stack places few path g.filling g.fills)
    where
      ends : (most sum : ℤ) → sum ≡ most → pos 0 ≤ℤ most → sum ≤ℤ pos 319999999999680 → IsWithin 319999999999680 most
      ends most sum e low high = record { low = omega (arith, ints, low); high = omega (arith, ints, e, high) }

  pub gains_small : (ss : List Stack) (gains : List ℤ) → AllZip (IsStackGain night path c) ss gains → IsWithin (length ss * 319999999999680) (sum_z (λ z. z) gains)
  gains_small [] [] are = nothing_within 0
  gains_small [] (g ∷ gains) are = absurd are
  gains_small (s ∷ ss) [] are = absurd are
  gains_small (s ∷ ss) (g ∷ gains) are = added (length ss) _ g (sum_z (λ z. z) gains) (omega arith) (gain_small s g are.0) (gains_small ss gains are.1)
    where
      added : (n m : ℕ) (x y : ℤ) → m ≡ suc n → IsWithin 319999999999680 x → IsWithin (n * 319999999999680) y → IsWithin (m * 319999999999680) (x +ℤ y)
      added n m x y e v w = record { low = omega (arith, ints, e, v.low, w.low); high = omega (arith, ints, e, v.high, w.high) }

  pub all_small : (ss : List Stack) (gains : List ℤ) → length ss ≤ 120 → AllZip (IsStackGain night path c) ss gains → IsWithin 38399999999961600 (sum_z (λ z. z) gains)
  all_small ss gains le are = wide (length ss) (sum_z (λ z. z) gains) le (gains_small ss gains are)
    where
      wide : (n : ℕ) (z : ℤ) → n ≤ 120 → IsWithin (n * 319999999999680) z → IsWithin 38399999999961600 z
      wide n z le w = record { low = omega (arith, ints, le, w.low); high = omega (arith, ints, le, w.high) }

-- a sum that is within limits, less what all stacks gain
pub less_gains : (sum now gains : ℤ) → sum ≡ now -ℤ gains → IsWithin 4000000000000000000 now → IsWithin 38399999999961600 gains → IsWithin 4038399999999961600 sum
less_gains sum now gains e v w = record { low = omega (arith, ints, e, v.low, w.high); high = omega (arith, ints, e, v.high, w.low) }

-- ---- choices

pub block_within : (night : Night) (c : Case) (b : Block) → IsWithin 15999999999984 (duals_over night c.duals (shape_of b))
    → IsWithin 23040939999999999 (weight_with night c (shape_of b) b.park) → IsWithin 23056939999999983 (gain night c b)
block_within night c b v w = difference _ _ v w
  where
    difference : (d g : ℤ) → IsWithin 15999999999984 d → IsWithin 23040939999999999 g → IsWithin 23056939999999983 (d -ℤ g)
    difference d g v w = record { low = omega (arith, ints, v.low, w.high); high = omega (arith, ints, v.high, w.low) }

pub fall_small : (places : PlaceLaws) (law : PartLaw) (night : Night) (i : IsInstance night) (few : unit_total night ≤ 160) (path : List Block) (b : Block)
    → All (IsWithinTrains night) path → ShareNothing night path → RunsThrough night (placed path)
    → All (IsWithinTrains night) (path ++ b ∷ []) → ShareNothing night (path ++ b ∷ []) → RunsThrough night (placed (path ++ b ∷ []))
    → (c : Case) → IsCase night c → (o : Option Stack) (fall : ℤ) → IsFall night path b c o fall → IsWithin 639999999999360 fall
fall_small places law night i few path b within apart go more_within more_apart more_go c is None fall f = none fall f
  where
    none : (z : ℤ) → z ≡ pos 0 → IsWithin 639999999999360 z
    none z e = record { low = omega (arith, ints, e); high = omega (arith, ints, e) }
fall_small places law night i few path b within apart go more_within more_apart more_go c is (Some s) fall f =
    difference fall f.0 f.1 f.4 (gain_small places law night i few path within apart go c is s f.0 f.2)
    (gain_small places law night i few (path ++ b ∷ []) more_within more_apart more_go c is s f.1 f.3)
  where
    difference : (z x y : ℤ) → z ≡ x -ℤ y → IsWithin 319999999999680 x → IsWithin 319999999999680 y → IsWithin 639999999999360 z
    difference z x y e v w = record { low = omega (arith, ints, e, v.low, w.high); high = omega (arith, ints, e, v.high, w.low) }

pub choice_within : (sum whole fall own : ℤ) → sum ≡ whole +ℤ fall -ℤ own → IsWithin 4038399999999961600 whole → IsWithin 639999999999360 fall
    → IsWithin 23056939999999983 own → IsWithin 4100000000000000000 sum
choice_within sum whole fall own e u v w = record { low = omega (arith, ints, e, u.low, v.low, w.high); high = omega (arith, ints, e, u.high, v.high, w.low) }
