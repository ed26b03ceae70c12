use Rattle.std.proofs.Common.{◌≡◌, true}
use Rattle.shunt_search.specs.defs.WalkStates.{Passes}
use Rattle.shunt_search.proofs.walk_stack.next_open.Given as goal

abbrev pub invariant-passed : goal.invariant-passed
invariant-passed l = record {
  passes : Passes l.initial.waiting.items l.waiting.items l.initial.low l.low;
  same : l.plain ≡ true → l.low ≡ l.initial.low;
}

abbrev pub decreases-passed : goal.decreases-passed
decreases-passed l = goal.left-passed l
