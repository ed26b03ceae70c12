use Rattle.std.proofs.Common.{◌-◌, ◌≡◌, ◌+◌, ◌<◌, ◌≤◌, ℕ}
use Rattle.shunt_dual.specs.defs.Tables.{at}
use Rattle.shunt_dual.proofs.steps.raise.Given as goal

abbrev pub invariant-loop-r : goal.invariant-loop-r
invariant-loop-r l = record {
  raised : (q : ℕ) → q < l.r → at l.alpha q ≡ at l.fn.alpha q + (l.far - at l.distance (at l.place q));
  rest : (q : ℕ) → l.r ≤ q → at l.alpha q ≡ at l.fn.alpha q;
}
