use Rattle.std.proofs.Common.{◌≡◌, ◌+◌, ◌<◌, ℕ}
use Rattle.shunt_dual.specs.defs.Tables.{at}
use Rattle.shunt_dual.proofs.tree.start.Given as goal

abbrev pub invariant-loop-c : goal.invariant-loop-c
invariant-loop-c l = record {
  distance : (q : ℕ) → q < l.c → at l.distance q ≡ at l.row q + at l.debt q;
  way : (q : ℕ) → q < l.c → at l.way q ≡ l.r;
}
