use Rattle.shunt_rows.proofs.KeptStates.{given}
use Rattle.shunt_instance.specs.defs.Wellformed.{IsStation}
use Rattle.shunt_station.proofs.Formed.{station_formed}
use Rattle.shunt_station.proofs.reader.read_station.Goals as goal

pub returns-clause-formed : goal.returns-clause-formed
returns-clause-formed c = given (λ s. s) IsStation _ (station_formed _) c.read.result c.read.ensures
