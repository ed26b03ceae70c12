use Rattle.shunt_plan.proofs.Tables.{plans_tell}
use Rattle.shunt_plan.proofs.laws.plan_or_first_fault.Goals as goal

pub returns : goal.returns
returns c = plans_tell
