use Rattle.std.proofs.Common.{◌≤◌, length, drop}
use Rattle.shunt_instance.specs.defs.Tables.{AreCosts}
use Rattle.shunt_instance.proofs.lookups.cost_table.Given as goal

abbrev pub invariant-routes : goal.invariant-routes
invariant-routes l = record {
  within : l.left ≤ length l.routes;
  table : AreCosts (drop l.left l.routes) l.costs.items;
}

abbrev pub decreases-routes : goal.decreases-routes
decreases-routes l = l.left
