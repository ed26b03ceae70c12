-- Which runs of units and positions are free, as tests.
use Rattle.std.specs.Prelude.{◌≡◌, ℕ, ◌+◌, nat_le, ◌&&◌, Bool, true, not, length, slice_index_or}
use Rattle.shunt_lists.specs.defs.Below.{all_below}
use Rattle.shunt_instance.specs.defs.Words.{train_at}
use Rattle.shunt_instance.specs.defs.Instance.{Night, unit_at, position_at, unit_total, position_total}
use Rattle.shunt_blocks.specs.defs.Shapes.{is_pair}
use Rattle.shunt_choices.specs.defs.Paths.{Masks}

-- both lists have the lengths of the night
pub record AreMasksOf (night : Night) (covered : Masks) : Type 0 where
  pub units : length covered.units ≡ unit_total night
  pub places : length covered.places ≡ position_total night

-- whether neither is covered
abbrev pub is_bare : Masks → ℕ → ℕ → Bool
is_bare covered u v = not (slice_index_or covered.units u true) && not (slice_index_or covered.places v true)

-- whether they are matchable and uncovered
unfoldable pub is_free_pair : Night → Masks → ℕ → ℕ → Bool
is_free_pair night covered u v = is_pair night u v && is_bare covered u v

-- whether n units from a unit on are in its train
abbrev pub has_units : Night → ℕ → ℕ → Bool
has_units night u n = nat_le ((unit_at night u).place + n) (length (train_at night.arrive (unit_at night u).train.0).units + 1)

-- whether n positions from a position on are in its train
abbrev pub has_positions : Night → ℕ → ℕ → Bool
has_positions night v n = nat_le ((position_at night v).place + n) (length (train_at night.depart (position_at night v).train.0).units + 1)

-- whether n units and n positions from these on are in their trains, and each pair of them is matchable and uncovered
unfoldable pub is_free_run : Night → Masks → ℕ → ℕ → ℕ → Bool
is_free_run night covered u n v = has_units night u n && has_positions night v n && all_below n (λ k. is_free_pair night covered (u + k) (v + k))
