use Rattle.std.proofs.Common.{◌≡◌, ◌+◌, ◌≤◌, drop}
use Rattle.shunt_resume.specs.defs.Resumed.{parked_in}
use Rattle.shunt_resume.proofs.next_timetable.parked_in.Given as goal

abbrev pub invariant-runs : goal.invariant-runs
invariant-runs l = record {
  exact : l.parked + parked_in (drop l.run-index l.runs) ≡ parked_in l.runs;
  few : l.parked ≤ l.run-index;
}
