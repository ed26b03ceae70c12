use Rattle.std.proofs.Common.{◌+◌, sym, subst, arith}
use Rattle.shunt_blocks.specs.defs.Shapes.{IsWithinTrains}
use Rattle.shunt_search.proofs.YardChanges.{within_placed, none_at, few_at, next_at}
use Rattle.shunt_search.proofs.yard.stand_placed.Goals as goal

pub settle-requires-clause-within : goal.settle-requires-clause-within
settle-requires-clause-within c =
    let night = c.args.instance.now in
    let b = c.block_at-block.result in
    within_placed night b c.at_place.result (c.loop-place.place + 1) (subst (IsWithinTrains night) (sym (c.block_at-block.ensures b))
    (c.requires.within c.loop-place.place b c.loop-place-test.true)) c.at_place.ensures

pub settle-requires-clause-new : goal.settle-requires-clause-new
settle-requires-clause-new c =
    let b = c.block_at-block.result in
    none_at c.args.instance.now c.args.blocks.now c.loop-place.place c.loop-place-test.true b c.at_place.result
    (c.block_at-block.ensures b) c.at_place.ensures c.loop-place.timelines c.loop-place.invariant.stand

pub settle-requires-clause-few : goal.settle-requires-clause-few
settle-requires-clause-few c =
    let b = c.block_at-block.result in
    let few = few_at c.args.instance.now c.args.blocks.now c.loop-place.place c.loop-place-test.true b c.at_place.result
    (c.block_at-block.ensures b) c.at_place.ensures c.loop-place.timelines c.loop-place.invariant.stand in
    omega (arith, few, c.loop-place-test.true, c.requires.few)

pub settle-requires-clause-room : goal.settle-requires-clause-room
settle-requires-clause-room c =
    let b = c.block_at-block.result in
    let few = few_at c.args.instance.now c.args.blocks.now c.loop-place.place c.loop-place-test.true b c.at_place.result
    (c.block_at-block.ensures b) c.at_place.ensures c.loop-place.timelines c.loop-place.invariant.stand in
    omega (arith, few, c.loop-place-test.true, c.loop-place.invariant.room, c.requires.room)

pub loop-place-preserved : goal.loop-place-preserved
loop-place-preserved c =
    let b = c.block_at-block.result in
    record {
      stand = next_at c.args.instance.now c.args.blocks.now c.loop-place.place c.loop-place-test.true b c.at_place.result
          (c.block_at-block.ensures b) c.at_place.ensures c.loop-place.timelines c.loop-place.invariant.stand
          c.settle.new.timelines c.settle.ensures.lengths c.settle.ensures.stays c.settle.ensures.count;
      room = omega (arith, c.settle.ensures.room, c.loop-place.invariant.room);
    }
