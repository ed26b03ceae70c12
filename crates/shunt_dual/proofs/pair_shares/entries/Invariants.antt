use Rattle.std.specs.Prelude.{slice_index_or, None}
use Rattle.std.proofs.Common.{◌≡◌, ◌<◌, ◌/◌, ◌%◌, ℕ, length}
use Rattle.shunt_dual.specs.defs.Shares.{IsEntry}
use Rattle.shunt_dual.proofs.pair_shares.entries.Given as goal

abbrev pub invariant-loop-cell : goal.invariant-loop-cell
invariant-loop-cell l = record {
  size : length l.entries.items ≡ l.cell;
  each : (k : ℕ) → k < l.cell → IsEntry l.instance (k / l.positions) (k % l.positions) (slice_index_or l.entries.items k None);
}
