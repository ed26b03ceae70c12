use Rattle.std.proofs.Common.{◌≤◌}
use Rattle.shunt_dual.proofs.price_raises.doubled.Given as goal

abbrev pub invariant-doublings : goal.invariant-doublings
invariant-doublings l = record {
  some : 1 ≤ l.by;
  small : l.by ≤ 500000000;
}
