use Rattle.shunt_timetable.proofs.Tables.{timetables_tell}
use Rattle.shunt_timetable.proofs.laws.timetable_or_first_fault.Goals as goal

pub returns : goal.returns
returns c = timetables_tell
