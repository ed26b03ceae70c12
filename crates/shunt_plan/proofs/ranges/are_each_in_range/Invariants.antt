use Rattle.std.proofs.Common.{All, take}
use Rattle.shunt_blocks.specs.defs.Shapes.{IsInRange}
use Rattle.shunt_plan.proofs.ranges.are_each_in_range.Given as goal

abbrev pub invariant-loop-block : goal.invariant-loop-block
invariant-loop-block l = All (IsInRange l.instance) (take l.block-index l.blocks)
