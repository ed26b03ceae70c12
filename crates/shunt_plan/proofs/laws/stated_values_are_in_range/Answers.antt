use Rattle.shunt_plan.proofs.Formed.{plan_formed, pins_formed}
use Rattle.shunt_plan.proofs.laws.stated_values_are_in_range.Goals as goal

pub returns-clause-plan : goal.returns-clause-plan
returns-clause-plan c = plan_formed

pub returns-clause-pins : goal.returns-clause-pins
returns-clause-pins c = pins_formed
