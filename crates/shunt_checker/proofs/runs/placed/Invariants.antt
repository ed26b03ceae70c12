use Rattle.std.proofs.Common.{◌≡◌, take}
use Rattle.shunt_blocks.specs.defs.Lists.{placed}
use Rattle.shunt_checker.proofs.runs.placed.Given as goal

abbrev pub invariant-loop-k : goal.invariant-loop-k
invariant-loop-k l = l.numbered.items ≡ placed (take l.k l.blocks)
