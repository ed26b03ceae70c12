use Rattle.std.specs.Prelude.{take}
use Rattle.shunt_search.specs.defs.WalkStates.{Adds}
use Rattle.shunt_search.proofs.child_list.wait_for.Given as goal

abbrev pub invariant-loop-child : goal.invariant-loop-child
invariant-loop-child l = Adds (take l.child-index l.children) l.parent l.cases l.fn.waiting.items l.waiting.items
