use Rattle.shunt_station.proofs.RoundTrip.{station_back}
use Rattle.shunt_station.proofs.laws.records_of_a_station_state_it.Goals as goal

pub returns : goal.returns
returns c = station_back
