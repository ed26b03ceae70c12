use Rattle.std.proofs.Common.{◌≡◌, ℕ, ◌<◌, length, slice_index_or}
use Rattle.shunt_gains.specs.defs.Events.{IsEntryNumber}
use Rattle.shunt_gains.proofs.numbers.entries.Given as goal

abbrev pub invariant-loop-u : goal.invariant-loop-u
invariant-loop-u l = record {
  long : length l.numbers.items ≡ l.u;
  each : (w : ℕ) → w < l.u → IsEntryNumber l.instance w (slice_index_or l.numbers.items w 0);
}
