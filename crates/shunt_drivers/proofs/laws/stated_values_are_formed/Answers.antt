use Rattle.shunt_drivers.proofs.Formed.{crew_formed, roster_formed}
use Rattle.shunt_drivers.proofs.laws.stated_values_are_formed.Goals as goal

pub returns-clause-crew : goal.returns-clause-crew
returns-clause-crew c = crew_formed

pub returns-clause-roster : goal.returns-clause-roster
returns-clause-roster c = roster_formed
