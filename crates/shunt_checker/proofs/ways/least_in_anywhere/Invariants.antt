use Rattle.std.proofs.Common.{◌<◌, ◌≤◌}
use Rattle.shunt_blocks.specs.declared.records.Park.{Park}
use Rattle.shunt_blocks.specs.defs.Ways.{IsUnderIn}
use Rattle.shunt_checker.proofs.ways.least_in_anywhere.Given as goal

abbrev pub invariant-loop-t : goal.invariant-loop-t
invariant-loop-t l = record {
  least : (k : Park) → k.track.0 < l.t → IsUnderIn l.instance l.shape.arr k l.least;
  small : l.least ≤ 1000000;
}
