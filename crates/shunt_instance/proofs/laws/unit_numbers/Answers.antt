use Rattle.shunt_instance.proofs.Facts.{unit_at_is, position_at_is, unit_there, position_there}
use Rattle.shunt_instance.proofs.Looked.{units_few, positions_few}
use Rattle.shunt_instance.proofs.Orders.{opened}
use Rattle.shunt_instance.proofs.laws.unit_numbers.Goals as goal

pub returns-clause-unit : goal.returns-clause-unit
returns-clause-unit c = λ night k h lt. unit_at_is night k (opened night h) lt

pub returns-clause-unit_there : goal.returns-clause-unit_there
returns-clause-unit_there c = unit_there

pub returns-clause-units_few : goal.returns-clause-units_few
returns-clause-units_few c = λ night h. units_few night (opened night h)

pub returns-clause-position : goal.returns-clause-position
returns-clause-position c = λ night k h lt. position_at_is night k (opened night h) lt

pub returns-clause-position_there : goal.returns-clause-position_there
returns-clause-position_there c = position_there

pub returns-clause-positions_few : goal.returns-clause-positions_few
returns-clause-positions_few c = λ night h. positions_few night (opened night h)
