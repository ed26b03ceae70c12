use Rattle.std.proofs.Common.{◌≡◌, ◌+◌, ◌≤◌, drop}
use Rattle.shunt_resume.specs.defs.Resumed.{cleared_in}
use Rattle.shunt_resume.proofs.next_timetable.cleared_in.Given as goal

abbrev pub invariant-runs : goal.invariant-runs
invariant-runs l = record {
  exact : l.cleared + cleared_in (drop l.run-index l.runs) ≡ cleared_in l.runs;
  few : l.cleared ≤ l.run-index;
}
