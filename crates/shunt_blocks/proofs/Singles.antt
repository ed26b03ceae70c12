-- The opening cost is that of all lists of unparked one-unit blocks that with the pins cover the night.
use Rattle.std.specs.Prelude.{All, ◌==◌, cond, sum_by, count_by}
use Rattle.std.proofs.Common.{◌≡◌, inl, inr, ℕ, zero, suc, ◌+◌, ◌<◌, Bool, true, false, List, [], ◌∷◌, ◌++◌, refl, sym, ap, ◌∙◌, arith}
use Rattle.std.proofs.lemmas.Bool.Decides.{nat_tests}
use Rattle.std.proofs.lemmas.List.Sums.{sum_by-cons, sum_by-append}
use Rattle.shunt_lists.proofs.SumsBelow.{sum_below-same, sum_below-add}
use Rattle.shunt_lists.specs.defs.Below.{sum_below}
use Rattle.shunt_lists.specs.defs.Members.{In}
use Rattle.shunt_instance.specs.declared.records.Unit.{Unit as TrainUnit}
use Rattle.shunt_instance.specs.declared.records.Position.{Position}
use Rattle.shunt_instance.specs.defs.Instance.{Night, unit_total, position_total, unit_at, position_at}
use Rattle.shunt_instance.proofs.Facts.{unit_there, position_there}
use Rattle.shunt_blocks.specs.declared.records.Block.{Block}
use Rattle.shunt_blocks.specs.defs.Shapes.{shape_of, begins_at, position_from, IsWithinTrains}
use Rattle.shunt_blocks.specs.defs.Costs.{option_cost, block_cost}
use Rattle.shunt_blocks.specs.defs.Lists.{has_unit, has_position, times_unit, times_position, Covers, total_cost}
use Rattle.shunt_blocks.specs.defs.Pins.{IsSingle, unit_price, position_price, opening_cost}
use Rattle.shunt_blocks.proofs.Places.{unit_in, position_in}
use Rattle.shunt_blocks.proofs.OpeningCosts.{no_sum, pick}
use Rattle.shunt_lists.proofs.Members.{each_one}
use Rattle.shunt_lists.proofs.Sums.{sum_by-members as one_sum}

-- ---- sums over lists

two_sums : {X : Type 0} (xs : List X) (f g : X → ℕ) → sum_by (λ x. f x + g x) xs ≡ sum_by f xs + sum_by g xs
two_sums [] f g = refl
two_sums (x ∷ xs) f g = omega (arith, sum_by-cons (λ y. f y + g y) x xs, sum_by-cons f x xs, sum_by-cons g x xs, two_sums xs f g)

-- a value at each element that passes
none_pass : {X : Type 0} (xs : List X) (test : X → Bool) (c : ℕ) → count_by test xs ≡ 0 → sum_by (λ x. cond (test x) c 0) xs ≡ 0
none_pass [] test c none = refl
none_pass (x ∷ xs) test c none = at (test x) refl (λ rest. none_pass xs test c rest)
  where
    at : (t : Bool) → test x ≡ t → (count_by test xs ≡ 0 → sum_by (λ y. cond (test y) c 0) xs ≡ 0) → sum_by (λ y. cond (test y) c 0) (x ∷ xs) ≡ 0
    at true e tail = let one : cond (test x) 1 0 ≡ 1 = ap {B = ℕ} (λ t. cond t 1 0) e in absurd (omega (arith, none, sum_by-cons (λ y. cond (test y) 1 0) x xs, one))
    at false e tail = let nothing : cond (test x) c 0 ≡ 0 = ap {B = ℕ} (λ t. cond t c 0) e in omega
        (arith, sum_by-cons (λ y. cond (test y) c 0) x xs, nothing, tail (omega (arith, none, sum_by-cons (λ y. cond (test y) 1 0) x xs)))

one_passes : {X : Type 0} (xs : List X) (test : X → Bool) (c : ℕ) → count_by test xs ≡ 1 → sum_by (λ x. cond (test x) c 0) xs ≡ c
one_passes [] test c one = absurd (omega (arith, one))
one_passes (x ∷ xs) test c one = at (test x) refl (λ rest. one_passes xs test c rest)
  where
    at : (t : Bool) → test x ≡ t → (count_by test xs ≡ 1 → sum_by (λ y. cond (test y) c 0) xs ≡ c) → sum_by (λ y. cond (test y) c 0) (x ∷ xs) ≡ c
    at true e tail =
        let here : cond (test x) 1 0 ≡ 1 = ap {B = ℕ} (λ t. cond t 1 0) e in
        let value : cond (test x) c 0 ≡ c = ap {B = ℕ} (λ t. cond t c 0) e in
        omega (arith, sum_by-cons (λ y. cond (test y) c 0) x xs, value, none_pass xs test c (omega (arith, one, here, sum_by-cons (λ y. cond (test y) 1 0) x xs)))
    at false e tail =
        let here : cond (test x) 1 0 ≡ 0 = ap {B = ℕ} (λ t. cond t 1 0) e in
        let value : cond (test x) c 0 ≡ 0 = ap {B = ℕ} (λ t. cond t c 0) e in
        omega (arith, sum_by-cons (λ y. cond (test y) c 0) x xs, value, tail (omega (arith, one, here, sum_by-cons (λ y. cond (test y) 1 0) x xs)))

-- the values at the places of the elements, added up place by place
gathered : {X : Type 0} (n : ℕ) (f : ℕ → ℕ) (xs : List X) (has : X → ℕ → Bool) (place : X → ℕ) → ((x : X) → In x xs → place x < n)
    → ((x : X) (i : ℕ) → In x xs → has x i ≡ (place x == i)) → sum_below n (λ i. sum_by (λ x. cond (has x i) (f i) 0) xs) ≡ sum_by (λ x. f (place x)) xs
gathered n f [] has place low same = no_sum n
gathered n f (x ∷ xs) has place low same =
    let parts = sum_below-same n (λ i. sum_by (λ y. cond (has y i) (f i) 0) (x ∷ xs)) (λ i. cond (has x i) (f i) 0 + sum_by (λ y. cond (has y i) (f i) 0) xs)
    (λ i lt. sum_by-cons (λ y. cond (has y i) (f i) 0) x xs) in
    let first = sum_below-same n (λ i. cond (has x i) (f i) 0) (λ i. cond (place x == i) (f i) 0) (λ i lt. ap (λ t. cond t (f i) 0) (same x i (inl refl))) in
    omega (
      arith,
      parts,
      sum_below-add n (λ i. cond (has x i) (f i) 0) (λ i. sum_by (λ y. cond (has y i) (f i) 0) xs),
      first,
      pick n (place x) f (low x (inl refl)),
      gathered n f xs has place (λ y there. low y (inr there)) (λ y i there. same y i (inr there)),
      sum_by-cons (λ y. f (place y)) x xs,
    )

-- ---- singles

one_unit : (night : Night) (b : Block) (u : ℕ) → b.n ≡ 1 → has_unit night (shape_of b) u ≡ (begins_at night b == u)
one_unit night b u one = grind (arith, nat_tests, one)

one_position : (night : Night) (b : Block) (v : ℕ) → b.n ≡ 1 → has_position night (shape_of b) v ≡ (position_from night (shape_of b) == v)
one_position night b v one = grind (arith, nat_tests, one)

prices : (night : Night) (b : Block) → IsWithinTrains night b → IsSingle b → block_cost night b
    ≡ unit_price night (begins_at night b) + position_price night (position_from night (shape_of b))
prices night b within single =
    let r = within.runs in
    let p : (unit_at night (begins_at night b)).place ≡ b.p = ap (λ (x : TrainUnit). x.place) (unit_there night b.arr.0 b.p r.arr r.p (omega (arith, r.units, r.n))) in
    let q : (position_at night (position_from night (shape_of b))).place ≡ b.q = ap (λ (x : Position). x.place)
    (position_there night b.dep.0 b.q r.dep r.q (omega (arith, r.positions, r.n))) in
    let split : cond ((unit_at night (begins_at night b)).place == 1) 0 night.station.split
    ≡ cond (b.p == 1) 0 night.station.split = ap {B = ℕ} (λ k. cond (k == 1) 0 night.station.split) p in
    let couple : cond ((position_at night (position_from night (shape_of b))).place == 1) 0 night.station.couple
    ≡ cond (b.q == 1) 0 night.station.couple = ap {B = ℕ} (λ k. cond (k == 1) 0 night.station.couple) q in
    let option : option_cost night (shape_of b) b.park ≡ night.station.unparked = ap (option_cost night (shape_of b)) single.unparked in
    omega (arith, split, couple, option)

pub any_singles : (night : Night) (pins others : List Block) → All (IsWithinTrains night) others → All IsSingle others → Covers night (pins ++ others)
    → total_cost night (pins ++ others) ≡ opening_cost night pins
any_singles night pins others within single covers =
    omega (
      arith,
      sum_by-append (block_cost night) pins others,
      one_sum others (block_cost night) (λ b. unit_price night (begins_at night b) + position_price night (position_from night (shape_of b)))
          (λ b there. prices night b (inside b there) (alone b there)),
      two_sums others (λ b. unit_price night (begins_at night b)) (λ b. position_price night (position_from night (shape_of b))),
      units,
      positions,
    )
  where
    inside : (b : Block) → In b others → IsWithinTrains night b
    inside b there = each_one (IsWithinTrains night) others b within there

    alone : (b : Block) → In b others → IsSingle b
    alone b there = each_one IsSingle others b single there

    left : (times count c : ℕ) (sum : ℕ) → times + count ≡ 1 → (count ≡ 0 → sum ≡ 0) → (count ≡ 1 → sum ≡ c) → sum ≡ cond (times == 0) c 0
    left zero count c sum e none one = one (omega (arith, e))
    left (suc times) count c sum e none one = let is : (suc times == 0) ≡ false = grind (arith, nat_tests) in none (omega (arith, e)) ∙ sym (ap (λ t. cond t c 0) is)

    units : sum_by (λ b. unit_price night (begins_at night b)) others ≡ sum_below (unit_total night) (λ u. cond (times_unit night pins u == 0) (unit_price night u) 0)
    units =
        sym (gathered (unit_total night) (unit_price night) others (λ b u. has_unit night (shape_of b) u) (begins_at night)
        (λ b there. unit_in night (shape_of b) (begins_at night b) (inside b there).runs (record { from = omega arith; to = omega (arith, (inside b there).runs.n) }))
        (λ b u there. one_unit night b u (alone b there).one))
        ∙ sum_below-same (unit_total night) _ _ (λ u lt. left (times_unit night pins u) (times_unit night others u) (unit_price night u) _
        (sym (sum_by-append _ pins others) ∙ covers.units u lt)
        (none_pass others (λ b. has_unit night (shape_of b) u) (unit_price night u)) (one_passes others (λ b. has_unit night (shape_of b) u) (unit_price night u)))

    positions : sum_by (λ b. position_price night (position_from night (shape_of b))) others
        ≡ sum_below (position_total night) (λ v. cond (times_position night pins v == 0) (position_price night v) 0)
    positions =
        sym (gathered (position_total night) (position_price night) others (λ b v. has_position night (shape_of b) v) (λ b. position_from night (shape_of b))
        (λ b there. position_in night (shape_of b) (position_from night (shape_of b)) (inside b there).runs
        (record { from = omega arith; to = omega (arith, (inside b there).runs.n) }))
        (λ b v there. one_position night b v (alone b there).one))
        ∙ sum_below-same (position_total night) _ _ (λ v lt. left (times_position night pins v) (times_position night others v) (position_price night v) _
        (sym (sum_by-append _ pins others) ∙ covers.positions v lt)
        (none_pass others (λ b. has_position night (shape_of b) v) (position_price night v)) (one_passes others (λ b. has_position night (shape_of b) v) (position_price night v)))
