use Rattle.shunt_plan.proofs.Tables.{pins_tell}
use Rattle.shunt_plan.proofs.laws.pins_or_first_fault.Goals as goal

pub returns : goal.returns
returns c = pins_tell
