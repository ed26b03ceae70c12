use Rattle.shunt_recount.proofs.shapes.is_free.Given as goal
use Rattle.shunt_choices.proofs.Pairwise.{FreePairs}

abbrev pub invariant-loop-k : goal.invariant-loop-k
invariant-loop-k l = FreePairs l.instance l.covered l.from l.to l.k
