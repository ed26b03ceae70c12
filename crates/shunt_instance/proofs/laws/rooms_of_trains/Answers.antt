use Rattle.shunt_instance.proofs.Looked.{unit_room, position_room}
use Rattle.shunt_instance.proofs.Numbers.{counts_more}
use Rattle.shunt_instance.proofs.laws.rooms_of_trains.Goals as goal

pub returns-clause-unit : goal.returns-clause-unit
returns-clause-unit c = unit_room

pub returns-clause-position : goal.returns-clause-position
returns-clause-position c = position_room

pub returns-clause-behind : goal.returns-clause-behind
returns-clause-behind c = counts_more
