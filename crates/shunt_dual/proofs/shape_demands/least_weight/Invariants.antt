use Rattle.std.specs.Prelude.{None}
use Rattle.std.proofs.Common.{◌≤◌, ◌*◌}
use Rattle.shunt_blocks.specs.defs.Costs.{cost_with}
use Rattle.shunt_dual.specs.defs.Asks.{IsGiven}
use Rattle.shunt_dual.proofs.Lightest.{LeastBefore}
use Rattle.shunt_dual.proofs.shape_demands.least_weight.Given as goal

abbrev pub invariant-loop-t : goal.invariant-loop-t
invariant-loop-t l = record {
  given : IsGiven l.instance l.charges l.demand.shape l.least;
  small : l.least ≤ 1000 * cost_with l.instance l.demand.shape None;
  before : LeastBefore l.instance l.demand.shape l.charges l.t l.least;
}
