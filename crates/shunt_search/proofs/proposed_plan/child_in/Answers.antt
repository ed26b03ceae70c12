use Rattle.shunt_lists.proofs.Members.{in_place}
use Rattle.shunt_search.proofs.proposed_plan.child_in.Goals as goal

pub returns-then-has_choice : goal.returns-then-has_choice
returns-then-has_choice c = in_place c.args.children.now c.loop-child.child-index _ c.loop-child-test.true
