-- Shares are small, and duals under them are paid by each block.
use Rattle.std.specs.Prelude.{Option, Some, None, IfSome, ◌==◌, cond}
use Rattle.std.proofs.Common.{◌≡◌, ℕ, zero, suc, ◌+◌, ◌*◌, ◌/◌, ◌<◌, ◌≤◌, Bool, true, false, ℤ, pos, ◌+ℤ◌, ◌≤ℤ◌, [], refl, ap, arith}
use Rattle.std.proofs.lemmas.Int.{ints}
use Rattle.std.proofs.Math.Nat.{div-le_self, div-mul-le_self}
use Rattle.shunt_lists.proofs.Lists.{all_one}
use Rattle.shunt_base.specs.declared.duals.Duals.{Duals}
use Rattle.shunt_base.specs.declared.duals.Case.{Case}
use Rattle.shunt_instance.specs.defs.Instance.{Night, IsInstance, unit_total, position_total}
use Rattle.shunt_instance.proofs.Orders.{opened}
use Rattle.shunt_instance.proofs.Looked.{unit_room, position_room}
use Rattle.shunt_blocks.specs.declared.records.Shape.{Shape}
use Rattle.shunt_blocks.specs.declared.records.Park.{Park}
use Rattle.shunt_blocks.specs.defs.Shapes.{IsShape, unit_from, position_from}
use Rattle.shunt_blocks.specs.defs.Blocks.{IsOption}
use Rattle.shunt_blocks.specs.defs.Costs.{IsCheapest, cost_with}
use Rattle.shunt_choices.specs.defs.Paths.{masks_of}
use Rattle.shunt_prices.specs.defs.Sums.{sum_z_below}
use Rattle.shunt_prices.specs.defs.Cases.{alpha_at, beta_at, duals_over, HoldsInCase, DualsHold}
use Rattle.shunt_dual.specs.defs.Shares.{Holds, IsShare, IsEntry, Table, share_at, part_with, AreShares}
use Rattle.shunt_dual.specs.defs.Assignments.{AreUnder}
use Rattle.shunt_dual.proofs.LeastPart.{div_rises}
use Rattle.shunt_prices.proofs.Counts.{no_surcharge}

pub most_cheapest : (night : Night) (u v share : ℕ) (s : Shape) (cost : ℕ) → IsShare night u v share → Holds night s u v → IsCheapest night s cost → share ≤ 1000 * cost / s.n
most_cheapest night u v share s cost h holds k =
    let same : 1000 * cost / s.n ≡ part_with night s k.option = ap (λ (c : ℕ). 1000 * c / s.n) k.is in
    omega (arith, h.least s k.option holds k.is_option, same)

pub given_cheapest : (night : Night) (u v share : ℕ) (h : IsShare night u v share) (cost : ℕ) → IsCheapest night h.shape cost → share ≡ 1000 * cost / h.shape.n
given_cheapest night u v share h cost k =
    let le = most_cheapest night u v share h.shape cost h h.holds k in
    let ge : 1000 * cost / h.shape.n ≤ part_with night h.shape h.option = div_rises (1000 * cost) (1000 * cost_with night h.shape h.option) h.shape.n
    (omega (arith, h.holds.within)) (omega (arith, k.least h.option h.is_option)) in
    omega (arith, le, ge, h.is)

cond_le : (b : Bool) (n : ℕ) → cond b 0 n ≤ n
cond_le true n = omega arith
cond_le false n = omega arith

pub small : (night : Night) (u v share : ℕ) → IsInstance night → IsShare night u v share → share ≤ 3000000000
small night u v share is h =
    let station = (opened night is).station in
    let unparked : share ≤ part_with night h.shape None = h.least h.shape None h.holds tt in
    let whole : part_with night h.shape None ≤ 1000 * cost_with night h.shape None = div-le_self (1000 * cost_with night h.shape None) h.shape.n in
    omega (arith, unparked, whole, station.split, station.couple, station.unparked, cond_le (h.shape.p == 1) night.station.split, cond_le (h.shape.q == 1) night.station.couple)

sum_pairs : (n : ℕ) (f g : ℕ → ℤ) (x : ℕ) → ((k : ℕ) → k < n → (f k +ℤ g k) ≤ℤ pos x) → (sum_z_below n f +ℤ sum_z_below n g) ≤ℤ pos (x * n)
sum_pairs zero f g x h = omega (arith, ints)
sum_pairs (suc n) f g x h = omega (arith, ints, sum_pairs n f g x (λ k lt. h k (omega arith)), h n (omega arith))

under_share : (night : Night) (u v limit : ℕ) (o : Option ℕ) (z : ℤ) → IsEntry night u v o → IfSome o (λ share. z ≤ℤ pos share) → (s : Shape) (park : Option Park)
    → Holds night s u v → IsOption night s park
    → ((k : ℕ) → IsShare night u v k → k ≤ limit) → (IsEntry night u v None → ⊥) → z ≤ℤ pos limit
under_share night u v limit None z entry under s park holds option most never = absurd (never entry)
under_share night u v limit (Some share) z entry under s park holds option most never = omega (arith, ints, under, most share entry)

module _ (night : Night) (t : Table) (d : Duals) (shares : AreShares night t) (under : AreUnder night t d) (s : Shape) (park : Option Park) (shape : IsShape night s)
    (option : IsOption night s park) where
  pair_paid : (k : ℕ) → k < s.n → (alpha_at d (unit_from night s + k) +ℤ beta_at d (position_from night s + k)) ≤ℤ pos (part_with night s park)
  pair_paid k lt =
      let u = unit_from night s + k in
      let v = position_from night s + k in
      let ul : u < unit_total night = omega (arith, unit_room night s.arr.0 shape.within.arr, shape.within.p, shape.within.units) in
      let vl : v < position_total night = omega (arith, position_room night s.dep.0 shape.within.dep, shape.within.q, shape.within.positions) in
      let holds : Holds night s u v = record { shape = shape; place = k; within = lt; unit = refl; position = refl } in
      under_share night u v (part_with night s park) (share_at t u v) _ (shares.each u v ul vl) (under u v ul vl) s park holds option
      (λ share h. h.least s park holds option) (λ never. never (shape.pairs k lt))

  pub shape_paid : duals_over night d s ≤ℤ pos (1000 * cost_with night s park)
  shape_paid =
      let sums = sum_pairs s.n (λ k. alpha_at d (unit_from night s + k)) (λ k. beta_at d (position_from night s + k)) (part_with night s park) pair_paid in
      let whole : part_with night s park * s.n ≤ 1000 * cost_with night s park = div-mul-le_self (1000 * cost_with night s park) s.n in
      omega (arith, ints, sums, whole)

abbrev as_case : Duals → Case
as_case d = record { to = 160; multiplier = pos 0; duals = d }

pub duals_hold : (night : Night) (t : Table) (d : Duals) → AreShares night t → AreUnder night t d → DualsHold night [] d
duals_hold night t d shares under = all_one (HoldsInCase night (masks_of night [])) (as_case d) (record {
  holds = λ s park free room.
      let paid = shape_paid night t d shares under s park free.shape.shape free.option in
      omega (arith, ints, paid, no_surcharge park);
})
