use Rattle.shunt_checker.proofs.free_shapes.is_free.Given as goal
use Rattle.shunt_choices.proofs.Pairwise.{FreePairs}

abbrev pub invariant-loop-k : goal.invariant-loop-k
invariant-loop-k l = FreePairs l.fn.instance l.fn.covered l.from l.to l.k
