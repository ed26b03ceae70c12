use Rattle.std.proofs.Common.{◌≡◌, ◌≤◌, ◌*◌, take}
use Rattle.shunt_dual.specs.defs.Tables.{cost_at, total, top}
use Rattle.shunt_dual.proofs.table.cost_of.Given as goal

abbrev pub invariant-loop-r : goal.invariant-loop-r
invariant-loop-r l = record {
  sum : l.sum ≡ total (cost_at l.table l.n) (take l.r l.place);
  small : l.sum ≤ top * l.r;
}
