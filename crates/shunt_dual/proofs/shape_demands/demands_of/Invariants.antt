use Rattle.std.specs.Prelude.{All}
use Rattle.std.proofs.Common.{◌≡◌, take}
use Rattle.shunt_dual.specs.defs.Asks.{IsDemand, shapes_asked}
use Rattle.shunt_dual.proofs.shape_demands.demands_of.Given as goal

abbrev pub invariant-loop-shape : goal.invariant-loop-shape
invariant-loop-shape l = record {
  shapes : shapes_asked l.demands.items ≡ take l.shape-index l.shapes;
  each : All (IsDemand l.instance) l.demands.items;
}
