-- What the iterators of shapes and options still give.
use Rattle.std.specs.Prelude.{ℕ, zero, suc, ◌+◌, ◌-◌, ◌/◌, ◌%◌, nat_le, List, ◌++◌, map, filter, drop, length, slice_index_or, Option, Some, None}
use Rattle.std.specs.List.{flat_map, range_with_len}
use Rattle.shunt_base.specs.declared.ids.Side.{Side}
use Rattle.shunt_base.specs.declared.ids.Side.TheVariants.{A, B}
use Rattle.shunt_instance.specs.defs.Instance.{Night, position_total}
use Rattle.shunt_blocks.specs.declared.records.Shape.{Shape}
use Rattle.shunt_blocks.specs.declared.records.Park.{Park}
use Rattle.shunt_choices.specs.defs.Choices.{shape_at, candidates}
use Rattle.shunt_blocks.specs.defs.Blocks.{is_option}

-- of that many positions from v on, those from which at least n pairs are free, as shapes
abbrev pub row_left : Night → ℕ → List ℕ → ℕ → ℕ → ℕ → List Shape
row_left night u reach n v many = map (shape_at night u n) (filter (λ w. nat_le n (slice_index_or reach w 0)) (range_with_len v many))

-- the same of all positions, for each of that many numbers of pairs from n on
abbrev pub rows_left : Night → ℕ → List ℕ → ℕ → ℕ → List Shape
rows_left night u reach n many = flat_map (λ m. row_left night u reach m 0 (position_total night)) (range_with_len n many)

-- the shapes of n units from position v on, and then those of more units, up to that many
unfoldable pub shapes_left : Night → ℕ → List ℕ → ℕ → ℕ → ℕ → List Shape
shapes_left night u reach most n v = row_left night u reach n v (position_total night - v) ++ rows_left night u reach (n + 1) (most - n)

-- the options of a shape from a candidate on
unfoldable pub options_left : Night → Shape → ℕ → List (Option Park)
options_left night s at = filter (is_option night s) (drop at (candidates (length night.station.tracks)))

-- the side with a number: A for 0
abbrev pub side_numbered : ℕ → Side
side_numbered zero = A
side_numbered (suc n) = B

-- the candidate with a number: unparked is 0, and track t has 1 + 4 * t and the three after it
unfoldable pub candidate : ℕ → Option Park
candidate zero = None
candidate (suc pair) = Some (record { track = record { 0 = pair / 4 }; side_in = side_numbered (pair / 2 % 2); side_out = side_numbered (pair % 2) })
