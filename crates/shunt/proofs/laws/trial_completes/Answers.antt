use Rattle.shunt.proofs.Trials.{ends_well}
use Rattle.shunt.proofs.laws.trial_completes.Goals as goal

pub returns : goal.returns
returns c = ends_well
