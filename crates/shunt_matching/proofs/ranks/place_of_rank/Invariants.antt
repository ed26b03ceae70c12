use Rattle.std.proofs.Common.{◌≡◌, ◌≤◌}
use Rattle.shunt_lists.specs.defs.Below.{count_below}
use Rattle.shunt_matching.specs.defs.Counts.{is_of_kind}
use Rattle.shunt_matching.proofs.ranks.place_of_rank.Given as goal

abbrev pub invariant-loop-v : goal.invariant-loop-v
invariant-loop-v g l = record {
  counted : l.earlier ≡ count_below l.v (is_of_kind (g.V.Entries.entries l.vs) l.vm l.kind);
  few : l.earlier ≤ l.v;
  below : l.earlier ≤ l.rank;
}
