use Rattle.std.proofs.Common.{◌≡◌, ◌+◌, ◌-◌, ◌≤◌}
use Rattle.shunt_resume.specs.defs.Resumed.{cleared_runs, with_runs}
use Rattle.shunt_resume.proofs.Adding.{cleared_from}
use Rattle.shunt_resume.proofs.runs.add_cleared.Given as goal

abbrev pub invariant-places : goal.invariant-places
invariant-places l = record {
  from : l.block.p ≤ l.place;
  to : l.place ≤ l.block.p + l.block.n;
  runs : with_runs (cleared_from l.instance l.block l.place (l.block.p + l.block.n - l.place)) l.placed.items ≡ with_runs (cleared_runs l.instance l.block) l.fn.placed.items;
}
