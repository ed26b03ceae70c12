-- The orders of a list of blocks.
use Rattle.std.specs.Prelude.{List, map}
use Rattle.shunt_stays.specs.defs.Events.{Move, in_order}
use Rattle.shunt_instance.specs.defs.Instance.{Night}
use Rattle.shunt_blocks.specs.declared.records.Block.{Block}
use Rattle.shunt_blocks.specs.defs.Lists.{stays_of}
use Rattle.shunt_sheet.specs.declared.records.Order.{Order}

-- an event as an order
abbrev pub order_of : Move → Order
order_of m = record { minute = m.key.minute; enters = m.key.enters; id = m.key.id; length = m.length; track = m.track; side = m.side }

-- the entries and leaves of the blocks' stays, in key order
unfoldable pub orders_in : Night → List Block → List Order
orders_in night blocks = map order_of (in_order (stays_of night blocks))
