use Rattle.shunt_station.proofs.RoundTrip.{text_back}
use Rattle.shunt_station.proofs.Lengths.{station_short}
use Rattle.shunt_station.proofs.laws.texts_of_stations.Goals as goal

pub returns-clause-again : goal.returns-clause-again
returns-clause-again c = text_back

pub returns-clause-short : goal.returns-clause-short
returns-clause-short c = station_short
