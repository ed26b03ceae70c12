use Rattle.std.proofs.Common.{take}
use Rattle.shunt_blocks.specs.defs.Pins.{IsKept}
use Rattle.shunt_plan.proofs.kept.is_kept.Given as goal

abbrev pub invariant-loop-block : goal.invariant-loop-block
invariant-loop-block l = IsKept (take l.block-index l.blocks) l.pin → ⊥
