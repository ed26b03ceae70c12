use Rattle.shunt_dual.specs.defs.Around.{FromBack, IsLeastPart}
use Rattle.shunt_dual.proofs.pair_shares.least_from.Given as goal

abbrev pub invariant-loop-k : goal.invariant-loop-k
invariant-loop-k l = IsLeastPart l.instance l.u l.v (FromBack l.back l.k) l.least
