use Rattle.shunt_checker.proofs.Kept.{HasNotBelow}
use Rattle.shunt_checker.proofs.known.has_case.Given as goal

abbrev pub invariant-loop-k : goal.invariant-loop-k
invariant-loop-k l = HasNotBelow l.cases l.case l.k
