use Rattle.shunt_station.proofs.Formed.{station_formed}
use Rattle.shunt_station.proofs.laws.stated_stations_are_well_formed.Goals as goal

pub returns : goal.returns
returns c = station_formed
