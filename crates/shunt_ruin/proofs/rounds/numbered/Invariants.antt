use Rattle.shunt_ruin.specs.defs.Candidates.{AreNumbered}
use Rattle.shunt_ruin.proofs.rounds.numbered.Given as goal

abbrev pub invariant-loop-block : goal.invariant-loop-block
invariant-loop-block l = AreNumbered l.listed.items
