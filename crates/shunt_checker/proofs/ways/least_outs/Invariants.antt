use Rattle.std.proofs.Common.{◌≡◌, ◌<◌, ◌≤◌, ℕ, get_or, length}
use Rattle.shunt_blocks.specs.declared.records.Park.{Park}
use Rattle.shunt_blocks.specs.defs.Ways.{IsUnderOut}
use Rattle.shunt_checker.proofs.ways.least_outs.Given as goal

abbrev pub invariant-loop-d : goal.invariant-loop-d
invariant-loop-d l = record {
  least : (a : ℕ) → a < l.d → (k : Park) → k.track.0 < length l.instance.station.tracks → IsUnderOut l.instance (record { 0 = a }) k (get_or l.least a 0);
  long : length l.least ≡ 100;
  small : (a : ℕ) → get_or l.least a 0 ≤ 1000000;
}
