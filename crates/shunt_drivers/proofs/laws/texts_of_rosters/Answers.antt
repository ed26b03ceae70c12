use Rattle.shunt_drivers.proofs.RoundTrip.{duties_back, text_back}
use Rattle.shunt_drivers.proofs.Lengths.{roster_short}
use Rattle.shunt_drivers.proofs.laws.texts_of_rosters.Goals as goal

pub returns-clause-rows : goal.returns-clause-rows
returns-clause-rows c = duties_back

pub returns-clause-again : goal.returns-clause-again
returns-clause-again c = text_back

pub returns-clause-short : goal.returns-clause-short
returns-clause-short c = roster_short
