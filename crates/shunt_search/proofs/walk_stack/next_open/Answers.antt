use Rattle.shunt_search.proofs.Walked.{passes_lesser, never_both}
use Rattle.shunt_search.proofs.walk_stack.next_open.Goals as goal

pub passed-preserved-then-next-best : goal.passed-preserved-then-next-best
passed-preserved-then-next-best c = record {
  passes = passes_lesser _ _ _ c.in-Some.next _ _ _ c.passed.invariant.passes c.in-Some.ensures.items c.fall.ensures;
  same = λ e. absurd (never_both c.is_taken-taken.result c.if-taken.false (c.is_taken-taken.ensures e));
}
