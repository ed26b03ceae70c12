use Rattle.shunt.proofs.Checked.{ends_well}
use Rattle.shunt.proofs.laws.check_completes.Goals as goal

pub returns : goal.returns
returns c = ends_well
