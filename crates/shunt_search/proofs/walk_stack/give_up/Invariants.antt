use Rattle.shunt_search.proofs.Walked.{IsLeastOf}
use Rattle.shunt_search.proofs.walk_stack.give_up.Given as goal

abbrev pub invariant-loop-t : goal.invariant-loop-t
invariant-loop-t l = IsLeastOf l.fn.low l.waiting l.t-index l.bound
