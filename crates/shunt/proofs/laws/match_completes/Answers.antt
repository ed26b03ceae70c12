use Rattle.shunt.proofs.Matched.{ends_well}
use Rattle.shunt.proofs.laws.match_completes.Goals as goal

pub returns : goal.returns
returns c = ends_well
