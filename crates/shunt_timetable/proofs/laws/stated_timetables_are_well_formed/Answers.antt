use Rattle.shunt_timetable.proofs.Formed.{timetable_formed}
use Rattle.shunt_timetable.proofs.laws.stated_timetables_are_well_formed.Goals as goal

pub returns : goal.returns
returns c = timetable_formed
