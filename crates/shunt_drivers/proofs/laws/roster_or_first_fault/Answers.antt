use Rattle.shunt_drivers.proofs.Tables.{rosters_tell}
use Rattle.shunt_drivers.proofs.laws.roster_or_first_fault.Goals as goal

pub returns : goal.returns
returns c = rosters_tell
