use Rattle.std.proofs.Common.{arith}
use Rattle.shunt_blocks.specs.defs.Blocks.{IsBlock}
use Rattle.shunt_ruin.proofs.Judged.{all_more}
use Rattle.shunt_ruin.proofs.judge.are_blocks.Goals as goal
use Rattle.shunt_lists.proofs.Lists.{each_whole as all_whole}

pub loop-block-preserved : goal.loop-block-preserved
loop-block-preserved c = all_more (IsBlock c.args.instance.now) c.args.blocks.now c.loop-block.block-index _ c.loop-block-test.true c.loop-block.invariant
    (c.fits.ensures.0 c.if-not-fits.false)

pub returns : goal.returns
returns c = λ _. all_whole (IsBlock c.args.instance.now) c.args.blocks.now c.loop-block.block-index (omega (arith, c.loop-block-test.false)) c.loop-block.invariant
