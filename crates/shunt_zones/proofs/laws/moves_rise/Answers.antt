use Rattle.shunt_zones.proofs.RisingMinutes.{moves_rise}
use Rattle.shunt_zones.proofs.laws.moves_rise.Goals as goal

pub returns : goal.returns
returns c = moves_rise
