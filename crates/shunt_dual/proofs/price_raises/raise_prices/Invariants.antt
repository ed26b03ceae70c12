use Rattle.shunt_dual.specs.defs.Raises.{AreSwept}
use Rattle.shunt_dual.proofs.price_raises.raise_prices.Given as goal

abbrev pub invariant-loop-pair : goal.invariant-loop-pair
invariant-loop-pair l = AreSwept l.instance l.path.blocks l.duals l.pair l.best
