use Rattle.shunt_drivers.proofs.Tables.{crews_tell}
use Rattle.shunt_drivers.proofs.laws.crew_or_first_fault.Goals as goal

pub returns : goal.returns
returns c = crews_tell
