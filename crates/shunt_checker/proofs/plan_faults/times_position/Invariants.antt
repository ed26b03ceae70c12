use Rattle.std.proofs.Common.{◌≡◌, ◌≤◌, take}
use Rattle.std.specs.List.{count_by}
use Rattle.shunt_blocks.specs.defs.Shapes.{shape_of}
use Rattle.shunt_blocks.specs.defs.Lists.{has_position}
use Rattle.shunt_checker.proofs.plan_faults.times_position.Given as goal

abbrev pub invariant-loop-block : goal.invariant-loop-block
invariant-loop-block l = record {
  count : l.times ≡ count_by (λ b. has_position l.instance (shape_of b) l.position) (take l.block-index l.blocks);
  few : l.times ≤ l.block-index;
}
