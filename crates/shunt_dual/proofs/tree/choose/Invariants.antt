use Rattle.std.proofs.Common.{◌≡◌, ◌<◌, ◌≤◌, ◌^◌, ◌-◌, ℕ, length}
use Rattle.shunt_dual.specs.defs.Tables.{at}
use Rattle.shunt_dual.proofs.tree.choose.Given as goal

abbrev pub invariant-loop-c : goal.invariant-loop-c
invariant-loop-c l = record {
  least : (q : ℕ) → q < l.c → at l.when q ≡ l.mark → l.least ≤ at l.distance q;
  best : l.least < 2 ^ 64 - 1 → (l.best < length l.when) × (at l.when l.best ≡ l.mark) × (at l.distance l.best ≡ l.least);
}
