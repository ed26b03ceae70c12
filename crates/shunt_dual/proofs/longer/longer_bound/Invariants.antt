use Rattle.shunt_dual.specs.defs.Longer.{AtLonger}
use Rattle.shunt_dual.proofs.longer.longer_bound.Given as goal
use Rattle.shunt_prices.specs.defs.Bounds.{IsLeastBelow}

abbrev pub invariant-loop-k : goal.invariant-loop-k
invariant-loop-k l = AtLonger l.instance l.cases l.sums l.block (λ path. IsLeastBelow l.instance path l.cases l.k l.least)
