use Rattle.shunt_checker.proofs.Siblings.{NoneBelow, AreDeeper}
use Rattle.shunt_checker.proofs.children.has_child.Given as goal

abbrev pub invariant-loop-j : goal.invariant-loop-j
invariant-loop-j l = record {
  none : NoneBelow l.fn.nodes l.fn.k l.fn.choice l.j;
  deeper : AreDeeper l.fn.nodes l.fn.k l.j;
}
