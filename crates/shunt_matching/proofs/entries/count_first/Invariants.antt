use Rattle.std.proofs.Common.{◌≡◌, ◌≤◌}
use Rattle.shunt_lists.specs.defs.Below.{count_below}
use Rattle.shunt_matching.specs.defs.Counts.{is_of_kind}
use Rattle.shunt_matching.proofs.entries.count_first.Given as goal

abbrev pub invariant-loop-i : goal.invariant-loop-i
invariant-loop-i g l = record {
  counted : l.count ≡ count_below l.i (is_of_kind (g.E.Entries.entries l.entries) l.mask l.kind);
  few : l.count ≤ l.i;
  short : l.end ≤ 160;
}
