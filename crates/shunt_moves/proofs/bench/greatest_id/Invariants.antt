use Rattle.std.proofs.Common.{◌≡◌, take}
use Rattle.shunt_moves.specs.defs.States.{greatest_id}
use Rattle.shunt_moves.proofs.bench.greatest_id.Given as goal

abbrev pub invariant-loop-block : goal.invariant-loop-block
invariant-loop-block l = l.greatest ≡ greatest_id (take l.block-index l.blocks)
