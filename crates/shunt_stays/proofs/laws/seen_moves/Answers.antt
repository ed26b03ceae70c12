use Rattle.shunt_stays.proofs.Steps.{seen_alike}
use Rattle.shunt_stays.proofs.laws.seen_moves.Goals as goal

pub returns : goal.returns
returns c = seen_alike
