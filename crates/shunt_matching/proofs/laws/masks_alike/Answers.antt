use Rattle.shunt_matching.proofs.Alike.{same_matchings, same_shortages}
use Rattle.shunt_matching.proofs.laws.masks_alike.Goals as goal

pub returns-clause-matchings : goal.returns-clause-matchings
returns-clause-matchings c = same_matchings

pub returns-clause-shortages : goal.returns-clause-shortages
returns-clause-shortages c = same_shortages
