use Rattle.std.proofs.Common.{◌≡◌, take}
use Rattle.shunt_blocks.specs.defs.Lists.{placed}
use Rattle.shunt_search.proofs.wholes.placed_blocks.Given as goal

abbrev pub invariant-loop-place : goal.invariant-loop-place
invariant-loop-place l = l.placed.items ≡ placed (take l.place l.blocks)
