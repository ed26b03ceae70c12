use Rattle.std.proofs.Common.{◌≡◌, ℕ, ◌+◌, ◌<◌, cond}
use Rattle.shunt_moves.specs.defs.Kept.{at, is_within}
use Rattle.shunt_moves.proofs.cover.Cover.raise.Given as goal

abbrev pub invariant-loop-k : goal.invariant-loop-k
invariant-loop-k l = record {
  total : l.self.total ≡ l.initial.self.total;
  each : (u : ℕ) → u < l.initial.self.total → at l.self.times u ≡ at l.initial.self.times u + cond (is_within l.from l.k u) 1 0;
}
