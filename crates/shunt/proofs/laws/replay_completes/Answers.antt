use Rattle.shunt.proofs.Replayed.{ends_well}
use Rattle.shunt.proofs.laws.replay_completes.Goals as goal

pub returns : goal.returns
returns c = ends_well
