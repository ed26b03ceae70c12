use Rattle.std.proofs.Common.{◌≡◌, ◌≤◌}
use Rattle.shunt_lists.specs.defs.Below.{count_below}
use Rattle.shunt_matching.specs.defs.Counts.{is_by_minute}
use Rattle.shunt_matching.proofs.entries.count_by.Given as goal

abbrev pub invariant-loop-i : goal.invariant-loop-i
invariant-loop-i g l = record {
  counted : l.count ≡ count_below l.i (is_by_minute (g.E.Entries.entries l.entries) l.mask l.kind l.minute);
  few : l.count ≤ l.i;
}
