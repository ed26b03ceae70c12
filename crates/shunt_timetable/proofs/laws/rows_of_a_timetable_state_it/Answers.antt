use Rattle.shunt_timetable.proofs.RoundTrip.{timetable_again}
use Rattle.shunt_timetable.proofs.laws.rows_of_a_timetable_state_it.Goals as goal

pub returns : goal.returns
returns c = timetable_again
