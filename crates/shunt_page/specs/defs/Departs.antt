-- The departing trains with what fills their positions.
use Rattle.std.specs.Prelude.{ℕ, ◌+◌, ◌-◌, List, [], ◌∷◌, map, length, if◌then◌else◌}
use Rattle.std.specs.List.{range_with_len, flat_map}
use Rattle.shunt_instance.specs.defs.Words.{train_at}
use Rattle.shunt_instance.specs.defs.Instance.{Night, first_position}
use Rattle.shunt_blocks.specs.declared.records.Block.{Block}
use Rattle.shunt_blocks.specs.defs.Shapes.{shape_of, unit_from, position_from}
use Rattle.shunt_blocks.specs.defs.Lists.{has_position}
use Rattle.shunt_page.specs.declared.records.Filling.{Filling}
use Rattle.shunt_page.specs.declared.records.Seat.{Seat}
use Rattle.shunt_page.specs.declared.records.DepartRow.{DepartRow}
use Rattle.shunt_page.specs.defs.Told.{unit_told, train_told}
use Rattle.shunt_picture.specs.defs.Told.{track_name}

-- the unit of a block at a place of it, from 0
abbrev pub filling_of : Night → Block → ℕ → Filling
filling_of night b place = record { unit = unit_told night (unit_from night (shape_of b) + place); id = b.id; track = track_name night b.park }

-- the one at the position with a number, where the block has it
abbrev pub filling_at : Night → ℕ → Block → List Filling
filling_at night v b = if has_position night (shape_of b) v then filling_of night b (v - position_from night (shape_of b)) ∷ [] else []

-- what fills the position with a number
abbrev pub seat_of : Night → List Block → ℕ → Seat
seat_of night blocks v = record { fillings = flat_map (filling_at night v) blocks }

-- the departing train with a number, with its positions in their order
abbrev pub depart_of : Night → List Block → ℕ → DepartRow
depart_of night blocks d = record {
  train = train_told night.station (train_at night.depart d);
  seats = map (λ k. seat_of night blocks (first_position night d + k))
      (range_with_len 0 (length (train_at night.depart d).units));
}

abbrev pub departs_of : Night → List Block → List DepartRow
departs_of night blocks = map (depart_of night blocks) (range_with_len 0 (length night.depart))
