use Rattle.shunt_instance.proofs.Found.{found_there}
use Rattle.shunt_instance.proofs.laws.names_are_found.Goals as goal

pub returns : goal.returns
returns _ c = found_there
