use Rattle.shunt_checker.proofs.bounds.cases_bound.Given as goal
use Rattle.shunt_prices.specs.defs.Bounds.{IsLeastBelow}

abbrev pub invariant-loop-k : goal.invariant-loop-k
invariant-loop-k l = IsLeastBelow l.instance l.path.blocks l.cases l.k l.least
