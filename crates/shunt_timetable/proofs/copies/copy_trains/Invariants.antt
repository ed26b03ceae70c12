use Rattle.std.proofs.Common.{◌≡◌, ◌++◌, drop}
use Rattle.shunt_timetable.proofs.copies.copy_trains.Given as goal

abbrev pub invariant-trains : goal.invariant-trains
invariant-trains l = l.copies.items ++ drop l.train-index l.trains ≡ l.trains
