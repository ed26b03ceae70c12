use Rattle.shunt_station.proofs.Tables.{station_tells}
use Rattle.shunt_station.proofs.laws.station_or_first_fault.Goals as goal

pub returns : goal.returns
returns c = station_tells
