-- How large counts, weights and sums become.
use Rattle.std.specs.Prelude.{◌==◌, All, map, cond, unwrap_or, IfSome, ◌*ℤ◌, Option, Some, None, if◌then◌else◌}
use Rattle.std.specs.Int.{int_max}
use Rattle.std.proofs.Common.{◌≡◌, ⊎_elim, ℕ, zero, suc, ◌+◌, ◌-◌, ◌*◌, ◌<◌, ◌≤◌, Bool, true, false, List, [], ◌∷◌, length, get_or, ℤ, pos, negsuc, ◌+ℤ◌, refl, sym, subst, ap, arith}
use Rattle.std.proofs.Math.Nat.{div-le_self, mul-le-mul, mul-le-mul_right, add-mul, one-mul}
use Rattle.std.proofs.lemmas.Int.{ints, clamps}
use Rattle.std.proofs.lemmas.Bool.{cases_lt}
use Rattle.std.proofs.lemmas.List.{get_or-map, get_or_past, length-map}
use Rattle.std.proofs.lemmas.List.Sums.{sum_by-le}
use Rattle.std.proofs.lemmas.List.Elements.{All-tail}
use Rattle.shunt_lists.proofs.SumsBelow.{sum_below-small}
use Rattle.shunt_base.specs.declared.ids.TrackId.{TrackId}
use Rattle.shunt_base.specs.declared.ids.Side.{Side}
use Rattle.shunt_base.specs.declared.ids.Side.TheVariants.{A, B}
use Rattle.shunt_base.specs.declared.duals.PriceKind.{PriceKind}
use Rattle.shunt_base.specs.declared.duals.PriceKind.TheVariants as kind
use Rattle.shunt_base.specs.declared.duals.Price.{Price}
use Rattle.shunt_base.specs.declared.duals.Duals.{Duals}
use Rattle.shunt_base.specs.declared.duals.Case.{Case}
use Rattle.shunt_instance.specs.declared.records.Origin.{Origin}
use Rattle.shunt_instance.specs.declared.records.Origin.TheVariants as origin
use Rattle.shunt_instance.specs.declared.records.Track.{Track}
use Rattle.shunt_instance.specs.defs.Words.{train_at}
use Rattle.shunt_instance.specs.defs.Instance.{Night, IsOrderedNight, unit_at, unit_total, position_total}
use Rattle.shunt_instance.proofs.Looked.{cost_bound, units_few, positions_few}
use Rattle.shunt_blocks.specs.declared.records.Shape.{Shape}
use Rattle.shunt_blocks.specs.declared.records.Block.{Block}
use Rattle.shunt_blocks.specs.declared.records.Park.{Park}
use Rattle.shunt_blocks.specs.defs.Shapes.{shape_of, unit_from, position_from, AreRunsWithin, IsWithinTrains}
use Rattle.shunt_blocks.specs.defs.Ways.{may_come, way_from, way_to, train_way_in}
use Rattle.shunt_blocks.specs.defs.Costs.{option_cost, cost_with}
use Rattle.shunt_blocks.specs.defs.Stays.{length_of, shape_length}
use Rattle.shunt_choices.specs.defs.Paths.{Masks, masks_of}
use Rattle.shunt_prices.specs.defs.Sums.{sum_z, sum_z_below, IsWithin}
use Rattle.shunt_prices.specs.defs.Prices.{track_length, count_of, most_of, count, most, counted_with, price_part_with, stands_with, paid_at_most}
use Rattle.shunt_prices.specs.defs.Limits.{IsKind, IsPrice, ArePrices, IsValue, AreDuals, IsCase, AreCases, from_of}
use Rattle.shunt_prices.specs.defs.Cases.{alpha_at, beta_at, duals_over, surcharge, weight_with, weight}
use Rattle.shunt_prices.specs.defs.Bounds.{uncovered_alphas, uncovered_betas, most_surcharge, sum_at}
use Rattle.shunt_blocks.proofs.Times.{arrival, length_small}

-- ---- signed numbers

pub wider : (a b : ℕ) (z : ℤ) → a ≤ b → IsWithin a z → IsWithin b z
wider a b z le w = record { low = omega (arith, ints, le, w.low); high = omega (arith, ints, le, w.high) }

pub both_within : (a b : ℕ) (y z : ℤ) → IsWithin a y → IsWithin b z → IsWithin (a + b) (y +ℤ z)
both_within a b y z v w = record { low = omega (arith, ints, v.low, w.low); high = omega (arith, ints, v.high, w.high) }

pub nothing_within : (a : ℕ) → IsWithin a (pos 0)
nothing_within a = record { low = omega (arith, ints); high = omega (arith, ints) }

one_more : (n m : ℕ) → suc n * m ≡ n * m + m
one_more n m = omega (arith, add-mul n 1 m, one-mul m, ap (λ k. k * m) (let e : suc n ≡ n + 1 = omega arith in e))

pub sum_z-within : {X : Type 0} (value : X → ℤ) (m : ℕ) (xs : List X) → All (λ x. IsWithin m (value x)) xs → IsWithin (length xs * m) (sum_z value xs)
sum_z-within value m [] all = nothing_within (0 * m)
sum_z-within {X} value m (x ∷ xs) all =
    let P : X → Type 0 = λ y. IsWithin m (value y) in
    wider (m + length xs * m) (suc (length xs) * m) _ (omega (arith, one_more (length xs) m))
    (both_within m (length xs * m) (value x) (sum_z value xs) (all 0 x (omega arith)) (sum_z-within value m xs (All-tail P x xs all)))

pub sum_z_below-within : (n m : ℕ) (value : ℕ → ℤ) → ((i : ℕ) → i < n → IsWithin m (value i)) → IsWithin (n * m) (sum_z_below n value)
sum_z_below-within zero m value h = nothing_within (0 * m)
sum_z_below-within (suc n) m value h =
    wider (n * m + m) (suc n * m) _ (omega (arith, one_more n m)) (both_within (n * m) m (sum_z_below n value) (value n) (sum_z_below-within n m value (λ i lt. h i (omega arith)))
    (h n (omega arith)))

pub times_within : (m n : ℕ) (z : ℤ) → IsWithin m z → IsWithin (m * n) (z *ℤ pos n)
times_within m n (pos a) w =
    let le : a ≤ m = omega (arith, ints, w.high) in
    record { low = omega (arith, ints); high = omega (arith, ints, mul-le-mul_right n le) }
times_within m n (negsuc a) w =
    let le : suc a ≤ m = omega (arith, ints, w.low) in
    record { low = omega (arith, ints, mul-le-mul_right n le); high = omega (arith, ints) }

pub greater_within : (m : ℕ) (y z : ℤ) → IsWithin m y → IsWithin m z → IsWithin m (int_max y z)
greater_within m y z v w = record { low = omega (arith, ints, clamps, v.low, w.low); high = omega (arith, ints, clamps, v.high, w.high) }

value_within : (z : ℤ) → IsValue z → IsWithin 999999999999 z
value_within z v = record { low = v.low; high = v.high }

pub most_within : (m : ℤ) (from to : ℕ) → IsValue m → from ≤ 160 → to ≤ 160 → IsWithin 159999999999840 (most_surcharge m from to)
most_within m from to v few many = greater_within 159999999999840 _ _ (product from few) (product to many)
  where
    product : (n : ℕ) → n ≤ 160 → IsWithin 159999999999840 (m *ℤ pos n)
    product n le = wider (999999999999 * n) 159999999999840 _ (omega (arith, le)) (times_within 999999999999 n m (value_within m v))

-- ---- cases

pub from_small : (night : Night) (cases : List Case) (k : ℕ) → AreCases night cases → k < length cases → from_of cases k ≤ 160
from_small night cases zero is lt = omega arith
from_small night cases (suc k) is lt = omega (arith, is.rise k (suc k) no_case (omega arith) lt, (is.each (suc k) no_case lt).to)
  where
    no_case : Case
    no_case = record { to = 0; multiplier = pos 0; duals = record { alpha = []; beta = []; prices = [] } }

-- ---- lengths, counts and prices

room_small : (night : Night) (track : ℕ) → IsOrderedNight night → track_length night track ≤ 50000
room_small night track h = ⊎_elim
    (λ lt. omega (arith, get_or-map (λ (t : Track). t.length) night.station.tracks track no_track 0 lt, (h.station.tracks track no_track lt).long))
    (λ le. omega (arith, get_or_past (map (λ (t : Track). t.length) night.station.tracks) track 0 (rw length-map le)))
    (cases_lt track (length night.station.tracks))
  where
    no_track : Track
    no_track = record { name = []; length = 0; side_a = false; side_b = false }

module _ (night : Night) (h : IsOrderedNight night) where
  few_units : (s : Shape) → AreRunsWithin night s → s.n ≤ 8
  few_units s r = let a = arrival night s.arr.0 h r.arr in omega (arith, r.units, r.p, a.few)

  shape_small : (s : Shape) → AreRunsWithin night s → shape_length night s ≤ 40000
  shape_small s r = omega (
    arith,
    few_units s r,
    sum_below-small s.n 5000 (λ k. length_of night.station (unit_at night (unit_from night s + k)).kind)
        (λ k. length_small night.station (unit_at night (unit_from night s + k)).kind h.station),
  )

  kind_small : (k : PriceKind) (room long : ℕ) → IsKind k → long ≤ 40000 → count_of k room long ≤ 359999
  kind_small kind.Length room long is le = omega arith
  kind_small (kind.Parts r) room long is le =
      let whole : (r + 1) * long ≤ 9 * 40000 = mul-le-mul (let few : r + 1 ≤ 9 = omega (arith, is.1) in few) le in
      omega (arith, div-le_self ((r + 1) * long - 1) room, whole)

  most_kind_small : (k : PriceKind) (room : ℕ) → IsKind k → room ≤ 50000 → most_of k room ≤ 50000
  most_kind_small kind.Length room is le = le
  most_kind_small (kind.Parts r) room is le = omega (arith, is.1)

  pub count_small : (price : Price) (s : Shape) → IsPrice night price → AreRunsWithin night s → count night price s ≤ 359999
  count_small price s p r = kind_small price.kind (track_length night price.track.0) (shape_length night s) p.kind (shape_small s r)

  pub most_small : (price : Price) → IsPrice night price → most night price ≤ 50000
  most_small price p = most_kind_small price.kind (track_length night price.track.0) p.kind (room_small night price.track.0 h)

  flag_small : (b : Bool) (n m : ℕ) → n ≤ m → cond b n 0 ≤ m
  flag_small true n m le = le
  flag_small false n m le = omega arith

  counted_small : (price : Price) (s : Shape) (park : Option Park) → IsPrice night price → AreRunsWithin night s → counted_with night price s park ≤ 359999
  counted_small price s park p r = flag_small (stands_with night price s park) (count night price s) 359999 (count_small price s p r)

  pub part_small : (prices : List Price) (s : Shape) (park : Option Park) → ArePrices night prices → AreRunsWithin night s → price_part_with night prices s park ≤ 23039936000000000
  part_small prices s park p r =
      let each : All (λ (price : Price). price.value * counted_with night price s park ≤ 359999000000000) prices = λ k d lt. let q = p.each k d lt in omega
      (arith, mul-le-mul q.value (counted_small (get_or prices k d) s park q r)) in
      omega (arith, sum_by-le (λ (price : Price). price.value * counted_with night price s park) 359999000000000 prices each, mul-le-mul_right 359999000000000 p.few)

  pub paid_small : (prices : List Price) → ArePrices night prices → paid_at_most night prices ≤ 3200000000000000
  paid_small prices p =
      let each : All (λ (price : Price). price.value * most night price ≤ 50000000000000) prices = λ k d lt. let q = p.each k d lt in omega
      (arith, mul-le-mul q.value (most_small (get_or prices k d) q)) in
      omega (arith, sum_by-le (λ (price : Price). price.value * most night price) 50000000000000 prices each, mul-le-mul_right 50000000000000 p.few)

  -- ---- costs and weights

  or_none : (o : Option ℕ) → IfSome o (λ c. c ≤ 1000000) → unwrap_or o 0 ≤ 1000000
  or_none None le = omega arith
  or_none (Some c) le = le

  own_way : (b : Bool) → unwrap_or (if b then Some 0 else None) 0 ≤ 1000000
  own_way true = omega arith
  own_way false = omega arith

  way_in_small : (o : Origin) (track : TrackId) (side : Side) → unwrap_or (way_from night.station o track side) 0 ≤ 1000000
  way_in_small (origin.Platform p) track side = or_none _ (cost_bound night p track side _ h refl)
  way_in_small (origin.Track own) track A = omega arith
  way_in_small (origin.Track own) track B = own_way _

  way_out_small : (o : Origin) (track : TrackId) (side : Side) → unwrap_or (way_to night.station o track side) 0 ≤ 1000000
  way_out_small (origin.Platform p) track side = or_none _ (cost_bound night p track side _ h refl)
  way_out_small (origin.Track own) track side = omega arith

  may_small : (may : Bool) (way : Option ℕ) → unwrap_or way 0 ≤ 1000000 → unwrap_or (if may then way else None) 0 ≤ 1000000
  may_small true way le = le
  may_small false way le = omega arith

  option_small : (s : Shape) (park : Option Park) → option_cost night s park ≤ 2000000
  option_small s None = omega (arith, h.station.unparked)
  option_small s (Some k) = omega (
    arith,
    may_small (may_come (train_at night.arrive s.arr.0).placed s k.track k.side_in) (train_way_in night s.arr k.track k.side_in)
        (way_in_small (train_at night.arrive s.arr.0).origin k.track k.side_in),
    way_out_small (train_at night.depart s.dep.0).origin k.track k.side_out,
  )

  unless : (b : Bool) (n : ℕ) → n ≤ 1000000 → cond b 0 n ≤ 1000000
  unless true n le = omega arith
  unless false n le = le

  pub cost_small : (s : Shape) (park : Option Park) → cost_with night s park ≤ 4000000
  cost_small s park = omega (arith, option_small s park, unless (s.p == 1) night.station.split h.station.split, unless (s.q == 1) night.station.couple h.station.couple)

  surcharge_within : (m : ℤ) (park : Option Park) → IsValue m → IsWithin 999999999999 (surcharge m park)
  surcharge_within m None v = value_within m v
  surcharge_within m (Some k) v = nothing_within 999999999999

  pub weight_within : (c : Case) (s : Shape) (park : Option Park) → IsCase night c → AreRunsWithin night s → IsWithin 23040939999999999 (weight_with night c s park)
  weight_within c s park is r =
      let w = surcharge_within c.multiplier park is.multiplier in
      let part = part_small c.duals.prices s park is.duals.prices r in
      let cost = cost_small s park in
      record { low = omega (arith, ints, w.low, part, cost); high = omega (arith, ints, w.high, part, cost) }

  -- ---- values

  at_within : (zs : List ℤ) (i : ℕ) → All IsValue zs → IsWithin 999999999999 (get_or zs i (pos 0))
  at_within zs i all = ⊎_elim
      (λ lt. value_within _ (all i (pos 0) lt))
      (λ le. subst (IsWithin 999999999999) (sym (get_or_past zs i (pos 0) le)) (nothing_within 999999999999))
      (cases_lt i (length zs))

  pub over_within : (d : Duals) (s : Shape) → AreDuals night d → AreRunsWithin night s → IsWithin 15999999999984 (duals_over night d s)
  over_within d s is r =
      let n = few_units s r in
      wider (s.n * 999999999999 + s.n * 999999999999) 15999999999984 _ (omega (arith, n))
      (both_within (s.n * 999999999999) (s.n * 999999999999) _ _
      (sum_z_below-within s.n 999999999999 (λ k. alpha_at d (unit_from night s + k)) (λ i lt. at_within d.alpha (unit_from night s + i) is.alphas_in))
      (sum_z_below-within s.n 999999999999 (λ k. beta_at d (position_from night s + k)) (λ i lt. at_within d.beta (position_from night s + i) is.betas_in)))

  left_within : (n : ℕ) (covered : ℕ → Bool) (zs : List ℤ) → n ≤ 160 → All IsValue zs
      → IsWithin 159999999999840 (sum_z_below n (λ i. cond (covered i) (pos 0) (get_or zs i (pos 0))))
  left_within n covered zs few all =
      wider (n * 999999999999) 159999999999840 _ (omega (arith, few)) (sum_z_below-within n 999999999999 (λ i. cond (covered i) (pos 0) (get_or zs i (pos 0)))
      (λ i lt. either (covered i) (get_or zs i (pos 0)) (at_within zs i all)))
    where
      either : (b : Bool) (z : ℤ) → IsWithin 999999999999 z → IsWithin 999999999999 (cond b (pos 0) z)
      either true z w = nothing_within 999999999999
      either false z w = w

  pub alphas_within : (covered : Masks) (d : Duals) → AreDuals night d → IsWithin 159999999999840 (uncovered_alphas night covered d)
  alphas_within covered d is = left_within (unit_total night) (λ u. get_or covered.units u true) d.alpha (units_few night h) is.alphas_in

  pub betas_within : (covered : Masks) (d : Duals) → AreDuals night d → IsWithin 159999999999840 (uncovered_betas night covered d)
  betas_within covered d is = left_within (position_total night) (λ v. get_or covered.places v true) d.beta (positions_few night h) is.betas_in

  -- ---- sums

  weights_within : (c : Case) (path : List Block) → IsCase night c → All (IsWithinTrains night) path → length path ≤ 160
      → IsWithin 3686550399999999840 (sum_z (weight night c) path)
  weights_within c path is within few =
      wider (length path * 23040939999999999) 3686550399999999840 _ (omega (arith, few))
      (sum_z-within (weight night c) 23040939999999999 path (λ k d lt. weight_within c (shape_of (get_or path k d)) (get_or path k d).park is (within k d lt).runs))

  pub sum_within : (c : Case) (path : List Block) (from : ℕ) → IsCase night c → All (IsWithinTrains night) path → length path ≤ 160 → from ≤ 160
      → IsWithin 4000000000000000000 (sum_at night path from c)
  sum_within c path from is within few small =
      let w = weights_within c path is within few in
      let a = alphas_within (masks_of night path) c.duals is.duals in
      let b = betas_within (masks_of night path) c.duals is.duals in
      let p = paid_small c.duals.prices is.duals.prices in
      let m = most_within c.multiplier from c.to is.multiplier small is.to in
      record { low = omega (arith, ints, w.low, a.low, b.low, p, m.high); high = omega (arith, ints, w.high, a.high, b.high, m.low) }
