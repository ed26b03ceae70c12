use Rattle.shunt_zones.proofs.Formed.{zones_formed}
use Rattle.shunt_zones.proofs.laws.stated_zones_are_formed.Goals as goal

pub returns : goal.returns
returns c = zones_formed
