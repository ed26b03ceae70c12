use Rattle.std.proofs.Common.{◌≡◌, ◌++◌, [], map, drop}
use Rattle.shunt_rows.specs.defs.Records.{text_of_rows}
use Rattle.shunt_sheet.specs.defs.SheetRows.{order_row}
use Rattle.shunt_sheet.proofs.writer.write_orders.Given as goal

abbrev pub invariant-orders : goal.invariant-orders
invariant-orders l = record {
  open_row : l.writer.row ≡ [];
  text : l.writer.text ++ text_of_rows (map (order_row l.station) (drop l.order-index l.orders)) ≡ l.fn.writer.text ++ text_of_rows (map (order_row l.station) l.orders);
}
