use Rattle.shunt.proofs.Passed.{ends_well}
use Rattle.shunt.proofs.laws.zones_completes.Goals as goal

pub returns : goal.returns
returns c = ends_well
