use Rattle.shunt_zones.proofs.RoundTrip.{zones_back, text_back}
use Rattle.shunt_zones.proofs.laws.texts_of_zones.Goals as goal

pub returns-clause-rows : goal.returns-clause-rows
returns-clause-rows c = zones_back

pub returns-clause-again : goal.returns-clause-again
returns-clause-again c = text_back
