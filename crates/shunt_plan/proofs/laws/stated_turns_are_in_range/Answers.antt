use Rattle.shunt_plan.proofs.Formed.{turns_formed}
use Rattle.shunt_plan.proofs.laws.stated_turns_are_in_range.Goals as goal

pub returns : goal.returns
returns c = turns_formed
