use Rattle.shunt_timetable.proofs.Lengths.{timetable_wide}
use Rattle.shunt_timetable.proofs.laws.text_of_a_timetable_is_short.Goals as goal

pub returns : goal.returns
returns c = timetable_wide
