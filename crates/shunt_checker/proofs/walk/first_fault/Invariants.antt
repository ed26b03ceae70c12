use Rattle.shunt_checker.specs.defs.Walks.{IsWalk}
use Rattle.shunt_checker.proofs.walk.first_fault.Given as goal

abbrev pub ghost-node_fault : goal.ghost-node_fault
ghost-node_fault g a = g.start

abbrev pub invariant-loop-k : goal.invariant-loop-k
invariant-loop-k g l = IsWalk l.instance g.start l.certificate l.k l.path l.frames l.best
