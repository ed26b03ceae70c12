use Rattle.std.proofs.Common.{◌≡◌, ◌≢◌, ◌+◌}
use Rattle.shunt_dual.specs.defs.Tables.{at, cost_at, times, top}
use Rattle.shunt_dual.specs.defs.Pairs.{IsPaired, AreDuals}
use Rattle.shunt_dual.proofs.table.insert_all.Given as goal

abbrev pub invariant-loop-k : goal.invariant-loop-k
invariant-loop-k l = record {
  paired : IsPaired l.n l.k l.n l.place l.owner;
  duals : AreDuals l.n l.k top (cost_at l.table l.n) l.alpha l.debt l.place l.owner;
  free : times (l.n + 1) l.owner + l.k ≡ l.n;
  root : at l.owner l.n ≢ l.n + 1;
}
