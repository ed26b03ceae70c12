use Rattle.shunt_make.proofs.Formed.{station_formed}
use Rattle.shunt_make.proofs.Paired.{made_formed, made_matched}
use Rattle.shunt_make.proofs.laws.made_nights.Goals as goal

pub returns-clause-station : goal.returns-clause-station
returns-clause-station c = station_formed

pub returns-clause-timetable : goal.returns-clause-timetable
returns-clause-timetable c = made_formed

pub returns-clause-matching : goal.returns-clause-matching
returns-clause-matching c = made_matched
