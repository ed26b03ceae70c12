use Rattle.shunt_dual.specs.defs.Asks.{AreFreeBelow}
use Rattle.shunt_dual.proofs.shape_demands.all_shapes.Given as goal

abbrev pub invariant-loop-u : goal.invariant-loop-u
invariant-loop-u l = AreFreeBelow l.instance l.covered l.u l.shapes.items
