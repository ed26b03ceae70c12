use Rattle.shunt_stays.proofs.Crossings.{standing_fits}
use Rattle.shunt_stays.proofs.laws.standing_together.Goals as goal

pub returns : goal.returns
returns c = λ lengths stays track moment a on q go. standing_fits lengths stays track moment a on go q
