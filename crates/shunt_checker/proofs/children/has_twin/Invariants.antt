use Rattle.shunt_checker.proofs.Siblings.{NoneBelow}
use Rattle.shunt_checker.proofs.children.has_twin.Given as goal

abbrev pub invariant-loop-j : goal.invariant-loop-j
invariant-loop-j l = NoneBelow l.fn.nodes l.fn.parent l.fn.choice l.j
