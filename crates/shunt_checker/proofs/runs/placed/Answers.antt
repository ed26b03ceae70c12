use Rattle.std.specs.Prelude.{None}
use Rattle.std.proofs.Common.{◌∙◌, ◌+◌, arith}
use Rattle.shunt_blocks.specs.declared.records.Block.{Block}
use Rattle.shunt_checker.proofs.Badness.{placed_more}
use Rattle.shunt_checker.proofs.runs.placed.Goals as goal

no_block : Block
no_block = record { id = 0; arr = record { 0 = 0 }; p = 0; n = 0; dep = record { 0 = 0 }; q = 0; park = None }

pub loop-k-preserved : goal.loop-k-preserved
unfolding no_block
loop-k-preserved c = c.in_ok-push.ensures.items ∙ placed_more c.args.blocks.now c.loop-k.k no_block c.loop-k.numbered.items (c.loop-k.k + 1) c.loop-k-test.true c.loop-k.invariant
    (omega arith)
