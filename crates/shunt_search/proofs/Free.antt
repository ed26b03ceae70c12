-- Masks of what no block has.
use Rattle.std.specs.Prelude.{◌==◌, not}
use Rattle.std.specs.List.{range_with_len}
use Rattle.std.proofs.Common.{◌≡◌, ℕ, zero, suc, List, [], ◌∷◌, map, refl, sym}
use Rattle.shunt_instance.specs.defs.Instance.{Night, unit_total, position_total}
use Rattle.shunt_instance.specs.defs.Matching.{is_in_rest}
use Rattle.shunt_blocks.specs.defs.Lists.{times_unit, times_position, units_taken, positions_taken}
use Rattle.shunt_matching.specs.defs.Counts.{AreAlikeBelow}

no_unit : (night : Night) (us : List ℕ) (i : ℕ) → is_in_rest (map (λ u. not (times_unit night [] u == 0)) us) i ≡ is_in_rest [] i
no_unit night [] i = refl
no_unit night (u ∷ us) zero = refl
no_unit night (u ∷ us) (suc i) = no_unit night us i

no_position : (night : Night) (vs : List ℕ) (i : ℕ) → is_in_rest (map (λ v. not (times_position night [] v == 0)) vs) i ≡ is_in_rest [] i
no_position night [] i = refl
no_position night (v ∷ vs) zero = refl
no_position night (v ∷ vs) (suc i) = no_position night vs i

pub free_units : (night : Night) (n : ℕ) → AreAlikeBelow n (units_taken night []) []
free_units night n = λ i lt. no_unit night (range_with_len 0 (unit_total night)) i

pub free_positions : (night : Night) (n : ℕ) → AreAlikeBelow n (positions_taken night []) []
free_positions night n = λ i lt. no_position night (range_with_len 0 (position_total night)) i

pub free_units_back : (night : Night) (n : ℕ) → AreAlikeBelow n [] (units_taken night [])
free_units_back night n = λ i lt. sym (no_unit night (range_with_len 0 (unit_total night)) i)

pub free_positions_back : (night : Night) (n : ℕ) → AreAlikeBelow n [] (positions_taken night [])
free_positions_back night n = λ i lt. sym (no_position night (range_with_len 0 (position_total night)) i)
