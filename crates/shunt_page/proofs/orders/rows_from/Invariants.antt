use Rattle.std.proofs.Common.{◌≡◌, ◌≤◌, ◌++◌, [], length, drop}
use Rattle.shunt_page.specs.defs.Orders.{rows_from}
use Rattle.shunt_page.proofs.orders.rows_from.Given as goal

abbrev pub invariant-loop-order : goal.invariant-loop-order
invariant-loop-order l = record {
  rows : l.rows.items ++ rows_from l.instance l.blocks l.stood.items (drop l.order-index l.orders) ≡ rows_from l.instance l.blocks [] l.orders;
  few : length l.stood.items ≤ l.order-index;
}
