use Rattle.shunt.proofs.Rostered.{ends_well}
use Rattle.shunt.proofs.laws.roster_completes.Goals as goal

pub returns : goal.returns
returns c = ends_well
