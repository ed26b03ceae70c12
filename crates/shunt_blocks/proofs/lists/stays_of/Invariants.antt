use Rattle.std.proofs.Common.{◌≡◌, take}
use Rattle.shunt_blocks.specs.defs.Lists.{stays_of}
use Rattle.shunt_blocks.proofs.lists.stays_of.Given as goal

abbrev pub invariant-loop-block : goal.invariant-loop-block
invariant-loop-block l = l.stays.items ≡ stays_of l.instance (take l.block-index l.blocks)
