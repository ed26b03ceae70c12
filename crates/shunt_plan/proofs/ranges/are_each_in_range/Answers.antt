use Rattle.std.proofs.Common.{refl}
use Rattle.std.proofs.lemmas.List.Elements.{All-more}
use Rattle.shunt_blocks.specs.defs.Shapes.{IsInRange}
use Rattle.shunt_plan.proofs.ranges.are_each_in_range.Goals as goal
use Rattle.shunt_lists.proofs.Lists.{each_whole}

pub loop-block-preserved : goal.loop-block-preserved
loop-block-preserved c = All-more (IsInRange c.args.instance.now) c.args.blocks.now c.loop-block.block-index _ c.loop-block-test.true c.loop-block.invariant
    (c.if-not-in_range.ensures.0 refl)

pub returns : goal.returns
returns c = (λ _. each_whole (IsInRange c.args.instance.now) c.args.blocks.now c.loop-block.block-index c.loop-block-test.false c.loop-block.invariant, λ _. refl)
