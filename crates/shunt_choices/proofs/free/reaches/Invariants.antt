use Rattle.std.specs.Prelude.{nat_le, slice_index_or}
use Rattle.std.proofs.Common.{◌≡◌, ◌<◌, ◌≤◌, ℕ, length}
use Rattle.shunt_choices.specs.defs.Free.{is_free_run}
use Rattle.shunt_choices.proofs.free.reaches.Given as goal

abbrev pub invariant-loop-v : goal.invariant-loop-v
invariant-loop-v l = record {
  exact : (n v : ℕ) → 1 ≤ n → v < l.v → nat_le n (slice_index_or l.reach v 0) ≡ is_free_run l.instance l.covered l.u n v;
  few : (v : ℕ) → slice_index_or l.reach v 0 ≤ 8;
  long : length l.reach ≡ 160;
}
