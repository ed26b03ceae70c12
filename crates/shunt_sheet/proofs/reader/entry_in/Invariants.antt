use Rattle.std.proofs.Common.{◌≡◌, drop}
use Rattle.shunt_sheet.specs.defs.SheetFormat.{entry_in}
use Rattle.shunt_sheet.proofs.reader.entry_in.Given as goal

abbrev pub invariant-loop-order : goal.invariant-loop-order
invariant-loop-order l = entry_in l.id (drop l.order-index l.orders) ≡ entry_in l.id l.orders
