use Rattle.std.proofs.Common.{arith}
use Rattle.shunt_search.proofs.Stood.{stand_next, none_yet, few_yet}
use Rattle.shunt_search.proofs.polisher.stand.Goals as goal

pub settle-requires-clause-new : goal.settle-requires-clause-new
settle-requires-clause-new c = none_yet c.args.instance.now c.args.blocks.now c.loop-block.block-index _ c.loop-block-test.true c.loop-block.timelines c.loop-block.invariant.stand
    c.requires.feasible.ids

pub settle-requires-clause-few : goal.settle-requires-clause-few
settle-requires-clause-few c = let few = few_yet c.args.instance.now c.args.blocks.now c.loop-block.block-index c.loop-block.timelines c.loop-block.invariant.stand in omega
    (arith, few, c.loop-block-test.true, c.requires.few)

pub settle-requires-clause-room : goal.settle-requires-clause-room
settle-requires-clause-room c = let few = few_yet c.args.instance.now c.args.blocks.now c.loop-block.block-index c.loop-block.timelines c.loop-block.invariant.stand in omega
    (arith, few, c.loop-block-test.true, c.loop-block.invariant.room)

pub loop-block-preserved : goal.loop-block-preserved
loop-block-preserved c = record {
  stand = stand_next c.args.instance.now c.args.blocks.now c.loop-block.block-index _ c.loop-block-test.true c.loop-block.timelines c.settle.new.timelines
      c.loop-block.invariant.stand c.settle.ensures.lengths c.settle.ensures.stays c.settle.ensures.count;
  room = omega (arith, c.settle.ensures.room, c.loop-block.invariant.room);
}
