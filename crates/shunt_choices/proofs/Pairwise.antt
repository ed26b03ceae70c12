-- Free shapes, pair by pair.
use Rattle.std.specs.Prelude.{true, false, slice_index_or}
use Rattle.std.proofs.Common.{◌≡◌, ℕ, ◌+◌, ◌-◌, ◌<◌, ◌≤◌, refl, subst, arith}
use Rattle.shunt_instance.specs.defs.Instance.{Night}
use Rattle.shunt_blocks.specs.declared.records.Shape.{Shape}
use Rattle.shunt_blocks.specs.defs.Shapes.{AreRunsWithin, unit_from, position_from}
use Rattle.shunt_choices.specs.defs.Paths.{Masks}
use Rattle.shunt_choices.specs.defs.Choices.{IsFreePair, IsFree}

abbrev pub FreePairs : Night → Masks → ℕ → ℕ → ℕ → Type 0
FreePairs night covered u v n = (k : ℕ) → k < n → IsFreePair night covered (u + k) (v + k)

module _ (night : Night) (covered : Masks) (s : Shape) where
  pub free_from : AreRunsWithin night s → (n : ℕ) → s.n ≤ n → FreePairs night covered (unit_from night s) (position_from night s) n → IsFree night covered s
  free_from within n le pairs = record {
    shape = record { within = within; pairs = λ k lt. (pairs k (omega (arith, lt, le))).pair };
    first = refl;
    units = λ w has.
        let from = has.from in
        let to = has.to in
        let e : unit_from night s + (w - unit_from night s) ≡ w = omega (arith, from) in
        subst (λ (i : ℕ). slice_index_or covered.units i true ≡ false) e (pairs (w - unit_from night s) (omega (arith, from, to, le))).unit;
    positions = λ w has.
        let from = has.from in
        let to = has.to in
        let e : position_from night s + (w - position_from night s) ≡ w = omega (arith, from) in
        subst (λ (i : ℕ). slice_index_or covered.places i true ≡ false) e (pairs (w - position_from night s) (omega (arith, from, to, le))).position;
  }
