use Rattle.std.specs.Prelude.{slice_index_or}
use Rattle.std.proofs.Common.{◌≤◌, ◌<◌, ℕ}
use Rattle.shunt_choices.proofs.free.greatest.Given as goal

abbrev pub invariant-loop-n : goal.invariant-loop-n
invariant-loop-n l = record {
  bound : (k : ℕ) → k < l.n-index → slice_index_or l.numbers k 0 ≤ l.most;
  least : (most : ℕ) → ((k : ℕ) → slice_index_or l.numbers k 0 ≤ most) → l.most ≤ most;
}
