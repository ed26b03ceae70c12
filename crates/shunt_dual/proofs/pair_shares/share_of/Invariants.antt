use Rattle.shunt_dual.specs.defs.Around.{FromSome, IsLeastPart}
use Rattle.shunt_dual.proofs.pair_shares.share_of.Given as goal

abbrev pub invariant-loop-back : goal.invariant-loop-back
invariant-loop-back l = IsLeastPart l.instance l.u l.v (FromSome l.back l.after) l.least
