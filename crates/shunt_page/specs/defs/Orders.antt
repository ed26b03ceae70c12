-- The orders of a plan with all that whoever drives wants to know.
use Rattle.std.specs.Prelude.{◌==◌, ◌&&◌, ◌||◌, Bool, List, [], ◌∷◌, ◌++◌, find, slice_index, slice_index_or, Option, Some, None, if◌then◌else◌}
use Rattle.shunt_instance.specs.defs.Words.{train_at, track_names, is_standing}
use Rattle.shunt_instance.specs.defs.Instance.{Night}
use Rattle.shunt_blocks.specs.declared.records.Block.{Block}
use Rattle.shunt_blocks.specs.defs.Shapes.{shape_of}
use Rattle.shunt_blocks.specs.defs.Ways.{has_placed}
use Rattle.shunt_blocks.specs.defs.Lists.{track_lengths}
use Rattle.shunt_sheet.specs.declared.records.Order.{Order}
use Rattle.shunt_sheet.specs.defs.Orders.{orders_in}
use Rattle.shunt_page.specs.declared.occupancy.Stood.{Stood}
use Rattle.shunt_page.specs.declared.records.OrderRow.{OrderRow}
use Rattle.shunt_page.specs.declared.records.TrainTold.{TrainTold}
use Rattle.shunt_page.specs.defs.Told.{units_told, arrive_told, depart_told}
use Rattle.shunt_page.specs.defs.Occupancy.{after, load_on, beside}

-- the train with which a block comes or goes
abbrev pub train_of : Night → Order → Block → TrainTold
train_of night o b = if o.enters then arrive_told night b else depart_told night b

-- whether a block stands already: its train does, or one of its units has come
abbrev pub stands_already : Night → Block → Bool
stands_already night b = is_standing (train_at night.arrive b.arr.0) || has_placed night (shape_of b)

-- an order of a block, where so much stood before it
abbrev pub row_of : Night → List Stood → Order → Block → OrderRow
row_of night stood o b = record {
  order = o;
  units = units_told night b;
  train = train_of night o b;
  already = o.enters && stands_already night b;
  track = slice_index_or
      (track_names night.station) o.track.0 [];
  beside = beside stood o;
  load = load_on o.track.0 (after stood o);
  length = slice_index (track_lengths night.station) o.track.0;
}

-- the order of the block that has its id
abbrev pub row_with : Night → List Stood → Order → Option Block → List OrderRow
row_with night stood o None = []
row_with night stood o (Some b) = row_of night stood o b ∷ []

abbrev pub row_at : Night → List Block → List Stood → Order → List OrderRow
row_at night blocks stood o = row_with night stood o (find (λ b. b.id == o.id) blocks)

-- these orders one after the other
abbrev pub rows_from : Night → List Block → List Stood → List Order → List OrderRow
rows_from night blocks stood [] = []
rows_from night blocks stood (o ∷ orders) = row_at night blocks stood o ++ rows_from night blocks (after stood o) orders

-- the orders of a plan's blocks, in key order, from empty tracks on
abbrev pub rows_of : Night → List Block → List OrderRow
rows_of night blocks = rows_from night blocks [] (orders_in night blocks)
