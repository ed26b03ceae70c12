use Rattle.std.proofs.Common.{◌≤◌, length, drop}
use Rattle.shunt_instance.specs.defs.Tables.{ArePairs}
use Rattle.shunt_instance.proofs.lookups.pair_table.Given as goal

abbrev pub invariant-permits : goal.invariant-permits
invariant-permits l = record {
  within : l.left ≤ length l.permits;
  table : ArePairs (drop l.left l.permits) l.pairs.items;
}

abbrev pub decreases-permits : goal.decreases-permits
decreases-permits l = l.left
