use Rattle.std.proofs.Common.{◌≡◌, take}
use Rattle.shunt_blocks.specs.defs.Lists.{stays_of}
use Rattle.shunt_delay.specs.defs.Late.{late}
use Rattle.shunt_delay.proofs.late.late_stays.Given as goal

abbrev pub invariant-loop-block : goal.invariant-loop-block
invariant-loop-block l = l.stays.items ≡ stays_of (late l.train.0 l.minutes l.instance) (take l.block-index l.blocks)
