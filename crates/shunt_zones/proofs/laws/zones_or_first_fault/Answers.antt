use Rattle.shunt_zones.proofs.Tables.{zones_tell}
use Rattle.shunt_zones.proofs.laws.zones_or_first_fault.Goals as goal

pub returns : goal.returns
returns c = zones_tell
