use Rattle.std.proofs.Common.{◌≤◌, length, drop}
use Rattle.shunt_instance.specs.defs.Tables.{AreNamed}
use Rattle.shunt_instance.proofs.lookups.named_table.Given as goal

abbrev pub invariant-permits : goal.invariant-permits
invariant-permits l = record {
  within : l.left ≤ length l.permits;
  table : AreNamed (drop l.left l.permits) l.named.items;
}

abbrev pub decreases-permits : goal.decreases-permits
decreases-permits l = l.left
