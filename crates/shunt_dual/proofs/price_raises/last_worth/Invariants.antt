use Rattle.std.proofs.Common.{◌≤◌, ◌+◌}
use Rattle.shunt_dual.proofs.price_raises.last_worth.Given as goal

abbrev pub invariant-halvings : goal.invariant-halvings
invariant-halvings l = record {
  some : 1 ≤ l.by;
  small : l.by + l.step + l.step ≤ 1000000000;
}
