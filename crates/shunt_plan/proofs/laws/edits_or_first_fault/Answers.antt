use Rattle.shunt_plan.proofs.Tables.{edits_tell}
use Rattle.shunt_plan.proofs.laws.edits_or_first_fault.Goals as goal

pub returns : goal.returns
returns c = edits_tell
