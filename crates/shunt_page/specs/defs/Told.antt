-- What is told of units, trains and tracks.
use Rattle.std.specs.Prelude.{ℕ, ◌+◌, List, [], ◌∷◌, map, is_some, slice_index_or, if◌then◌else◌}
use Rattle.std.specs.List.{range_with_len, flat_map}
use Rattle.shunt_instance.specs.declared.records.Station.{Station}
use Rattle.shunt_instance.specs.declared.records.Train.{Train}
use Rattle.shunt_instance.specs.defs.Words.{train_at}
use Rattle.shunt_instance.specs.defs.Instance.{Night, unit_at}
use Rattle.shunt_blocks.specs.declared.records.Block.{Block}
use Rattle.shunt_blocks.specs.defs.Shapes.{shape_of, unit_from}
use Rattle.shunt_blocks.specs.defs.Stays.{stay_of}
use Rattle.shunt_picture.specs.defs.Marks.{origin_name}
use Rattle.shunt_picture.specs.defs.Told.{track_name}
use Rattle.shunt_page.specs.declared.records.UnitTold.{UnitTold}
use Rattle.shunt_page.specs.declared.records.TrainTold.{TrainTold}
use Rattle.shunt_page.specs.declared.records.LooseRow.{LooseRow}

-- the names of the station's types
abbrev pub type_names : Station → List (List ℕ)
type_names s = map (λ t. t.name) s.types

-- the unit with a number, by its train, its place there and its type
abbrev pub unit_told : Night → ℕ → UnitTold
unit_told night u = record {
  train = (train_at night.arrive (unit_at night u).train.0).name;
  place = (unit_at night u).place;
  kind = slice_index_or (type_names night.station)
      (unit_at night u).kind.0 [];
}

-- the units of a block
abbrev pub units_told : Night → Block → List UnitTold
units_told night b = map (λ k. unit_told night (unit_from night (shape_of b) + k)) (range_with_len 0 b.n)

abbrev pub train_told : Station → Train → TrainTold
train_told s t = record { name = t.name; place = origin_name s t.origin; minute = t.minute }

abbrev pub arrive_told : Night → Block → TrainTold
arrive_told night b = train_told night.station (train_at night.arrive b.arr.0)

abbrev pub depart_told : Night → Block → TrainTold
depart_told night b = train_told night.station (train_at night.depart b.dep.0)

-- a block that has no stay
abbrev pub loose_of : Night → Block → LooseRow
loose_of night b = record { id = b.id; units = units_told night b; arr = arrive_told night b; dep = depart_told night b; track = track_name night b.park }

-- a block, where it has none
abbrev pub loose_at : Night → Block → List LooseRow
loose_at night b = if is_some (stay_of night b) then [] else loose_of night b ∷ []

-- the blocks that have none
abbrev pub looses_of : Night → List Block → List LooseRow
looses_of night blocks = flat_map (loose_at night) blocks
