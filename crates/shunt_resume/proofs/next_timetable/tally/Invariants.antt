use Rattle.std.proofs.Common.{◌≡◌, ◌+◌, ◌*◌, ◌≤◌, drop}
use Rattle.std.specs.Prelude.{sum_by}
use Rattle.shunt_resume.specs.defs.Resumed.{parked_in, cleared_in}
use Rattle.shunt_resume.proofs.next_timetable.tally.Given as goal

abbrev pub invariant-trains : goal.invariant-trains
invariant-trains l = record {
  parked : l.tally.parked + sum_by (λ r. parked_in r.placed) (drop l.train-index l.timetable.arrive) ≡ sum_by (λ r. parked_in r.placed) l.timetable.arrive;
  cleared : l.tally.cleared + sum_by (λ r. cleared_in r.placed) (drop l.train-index l.timetable.arrive) ≡ sum_by (λ r. cleared_in r.placed) l.timetable.arrive;
  few : l.tally.parked ≤ 8 * l.train-index;
  fewer : l.tally.cleared ≤ 8 * l.train-index;
}
