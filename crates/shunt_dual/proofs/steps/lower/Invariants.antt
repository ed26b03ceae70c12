use Rattle.std.proofs.Common.{◌-◌, ◌≡◌, ◌+◌, ◌<◌, ◌≤◌, ℕ}
use Rattle.shunt_dual.specs.defs.Tables.{at}
use Rattle.shunt_dual.proofs.steps.lower.Given as goal

abbrev pub invariant-loop-c : goal.invariant-loop-c
invariant-loop-c l = record {
  lowered : (q : ℕ) → q < l.c → at l.debt q ≡ at l.fn.debt q + (l.far - at l.distance q);
  rest : (q : ℕ) → l.c ≤ q → at l.debt q ≡ at l.fn.debt q;
}
