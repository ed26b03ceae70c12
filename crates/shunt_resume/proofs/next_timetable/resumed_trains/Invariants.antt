use Rattle.std.proofs.Common.{◌≡◌, ◌++◌, map, drop}
use Rattle.shunt_resume.specs.defs.Resumed.{resumed_train}
use Rattle.shunt_resume.proofs.next_timetable.resumed_trains.Given as goal

abbrev pub invariant-trains : goal.invariant-trains
invariant-trains l = l.resumed.items ++ map (resumed_train l.instance l.minute l.blocks) (drop l.train-index l.trains) ≡ map (resumed_train l.instance l.minute l.blocks) l.trains
