use Rattle.std.proofs.Common.{◌≡◌, map, take}
use Rattle.shunt_sheet.specs.defs.Orders.{order_of}
use Rattle.shunt_tracks.specs.defs.Dues.{move_of as due_move}
use Rattle.shunt_sheet.proofs.orders.orders_from.Given as goal

abbrev pub invariant-loop-due : goal.invariant-loop-due
invariant-loop-due l = l.orders.items ≡ map order_of (map due_move (take l.due-index l.dues))
