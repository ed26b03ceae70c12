use Rattle.std.proofs.Common.{◌≡◌, ℕ, ◌<◌, length, slice_index_or}
use Rattle.shunt_gains.specs.defs.Events.{IsLeaveNumber}
use Rattle.shunt_gains.proofs.numbers.leaves.Given as goal

abbrev pub invariant-loop-v : goal.invariant-loop-v
invariant-loop-v l = record {
  long : length l.numbers.items ≡ l.v;
  each : (w : ℕ) → w < l.v → IsLeaveNumber l.instance w (slice_index_or l.numbers.items w 0);
}
