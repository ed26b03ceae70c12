use Rattle.std.proofs.Common.{arith}
use Rattle.shunt_proof.specs.declared.records.Version.TheVariants.{Stacks}
use Rattle.shunt_search.proofs.Offered.{none_tried_yet, tried_more, tried_all}
use Rattle.shunt_search.proofs.sights.open_with_stacks.Goals as goal

pub loop-block-init : goal.loop-block-init
loop-block-init c = none_tried_yet Stacks c.args.instance.now c.args.yard.now.path.blocks c.args.cases.now c.args.best _ c.new-children.ensures.items

pub loop-block-preserved : goal.loop-block-preserved
loop-block-preserved c = tried_more Stacks c.args.instance.now c.args.yard.now.path.blocks c.args.cases.now c.args.best c.args.blocks.now c.loop-block.block-index _
    c.loop-block-test.true c.loop-block.children.items c.offer.new.children.items c.in_ok-offer.ensures c.loop-block.invariant

pub returns : goal.returns
returns c = tried_all Stacks c.args.instance.now c.args.yard.now.path.blocks c.args.cases.now c.args.best c.args.blocks.now c.loop-block.block-index c.loop-block.children.items
    (omega (arith, c.loop-block-test.false)) c.loop-block.invariant
