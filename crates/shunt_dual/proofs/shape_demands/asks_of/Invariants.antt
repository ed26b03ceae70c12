use Rattle.std.specs.Prelude.{All}
use Rattle.shunt_instance.specs.defs.Instance.{unit_total}
use Rattle.shunt_dual.specs.defs.Refits.{IsAsk}
use Rattle.shunt_dual.specs.defs.Asks.{shapes_asked}
use Rattle.shunt_dual.proofs.Gathered.{AreSoFar}
use Rattle.shunt_dual.proofs.shape_demands.asks_of.Given as goal

abbrev pub invariant-loop-demand : goal.invariant-loop-demand
invariant-loop-demand l = record {
  asks : AreSoFar l.instance l.beta l.prices (shapes_asked l.demands) l.demand-index l.asks.items;
  each : All (IsAsk (unit_total l.instance)) l.asks.items;
}
