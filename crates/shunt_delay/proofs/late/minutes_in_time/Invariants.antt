use Rattle.std.proofs.Common.{◌≤◌}
use Rattle.shunt_blocks.specs.defs.Shapes.{shape_of}
use Rattle.shunt_delay.proofs.InTime.{AreReadyBelow}
use Rattle.shunt_delay.proofs.late.minutes_in_time.Given as goal

abbrev pub invariant-loop-k : goal.invariant-loop-k
invariant-loop-k l = record {
  few : l.minutes ≤ 120;
  below : AreReadyBelow l.instance (shape_of l.block) l.k l.minutes;
}
