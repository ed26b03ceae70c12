use Rattle.std.proofs.Common.{◌<◌, ◌∙◌, ◌+◌, length, ap, arith}
use Rattle.std.proofs.lemmas.List.{length-set}
use Rattle.shunt_sheet.specs.defs.Tracks.{blocks_of}
use Rattle.shunt_sheet.proofs.Turns.{turned, fits, within, left_few}
use Rattle.shunt_sheet.proofs.follower.follow_on.Goals as goal

pub loop-order-preserved : goal.loop-order-preserved
loop-order-preserved c =
    let i = c.loop-order.invariant in
    let lt : c.from-track.result < length c.loop-order.tracks.items = within c.args.lengths.now c.args.orders.now c.loop-order.order-index c.from-track.result
    (length c.loop-order.tracks.items) c.order-item.result c.requires.on c.loop-order-test.true c.order-item.is c.from-track.ensures i.sizes in
    record {
      number = ap (λ k. k + 1) i.number;
      sizes = length-set c.loop-order.tracks.items c.from-track.result c.done.new.blocks ∙ i.sizes;
      fit = fits (λ v. blocks_of v.items) c.args.lengths.now c.args.orders.now c.loop-order.order-index c.loop-order.number c.loop-order.tracks.items c.from-track.result
          c.order-item.result c.index_mut.result.now c.loop-order-test.true c.order-item.is c.from-track.ensures lt c.index_mut.ensures.value c.in_ok-done.field-0 c.done.new.blocks
          c.in-Moved.is c.in_ok-done.ensures i.fit;
      follows = turned (λ v. blocks_of v.items) c.args.lengths.now c.args.orders.now c.loop-order.order-index c.loop-order.number c.loop-order.tracks.items c.from-track.result
          c.order-item.result c.index_mut.result.now c.loop-order-test.true c.order-item.is c.from-track.ensures lt c.index_mut.ensures.value c.in_ok-done.field-0 c.done.new.blocks
          _ c.in-Moved.is c.in_ok-done.ensures i.follows;
    }

pub left_on-requires : goal.left_on-requires
left_on-requires c =
    let i = c.loop-order.invariant in
    left_few (λ v. blocks_of v.items) c.args.lengths.now c.args.orders.now c.loop-order.order-index c.loop-order.number c.args.tracks.now.items c.loop-order.tracks.items
    c.deref.result.now c.requires.few c.requires.sizes c.requires.on c.requires.none
    (let past = c.loop-order-test.false in omega (arith, past)) i.follows c.deref.ensures.value
