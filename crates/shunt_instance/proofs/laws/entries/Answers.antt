use Rattle.std.proofs.lemmas.List.{length-map}
use Rattle.shunt_instance.proofs.Facts.{unit_entry_is, position_entry_is, units_rise, positions_rise}
use Rattle.shunt_instance.proofs.Orders.{opened}
use Rattle.shunt_instance.proofs.laws.entries.Goals as goal

pub returns-clause-unit : goal.returns-clause-unit
returns-clause-unit c = unit_entry_is

pub returns-clause-units : goal.returns-clause-units
returns-clause-units c = λ night. length-map _ _

pub returns-clause-units_rise : goal.returns-clause-units_rise
returns-clause-units_rise c = λ night h. units_rise night (opened night h)

pub returns-clause-position : goal.returns-clause-position
returns-clause-position c = position_entry_is

pub returns-clause-positions : goal.returns-clause-positions
returns-clause-positions c = λ night. length-map _ _

pub returns-clause-positions_rise : goal.returns-clause-positions_rise
returns-clause-positions_rise c = λ night h. positions_rise night (opened night h)
