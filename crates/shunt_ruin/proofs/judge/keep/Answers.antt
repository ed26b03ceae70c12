use Rattle.shunt_ruin.proofs.Judged.{is_kept}
use Rattle.shunt_ruin.proofs.judge.keep.Goals as goal

pub returns-then-same_but_id : goal.returns-then-same_but_id
returns-then-same_but_id c = λ _. is_kept c.args.blocks.now c.args.pin.now _ c.loop-block.block-index c.loop-block-test.true (c.same_but_id.ensures.0 c.if-same_but_id.true)
