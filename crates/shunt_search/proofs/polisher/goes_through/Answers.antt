use Rattle.std.proofs.Common.{◌∷◌, sym}
use Rattle.shunt_search.proofs.Through.{on_a_track, joined, is_new, counted}
use Rattle.shunt_search.proofs.polisher.goes_through.Goals as goal
use Rattle.shunt_blocks.proofs.StaysOf.{stay_id}

pub returns : goal.returns
returns c =
    let lengths = c.args.others.now.lengths in
    let stays = c.args.others.now.stays in
    let there = sym c.in-Some.ensures.exact in
    joined c.clash_law.ensures.counts lengths stays c.in-Some.stay c.in-Some.ensures.formed
    (on_a_track c.args.instance.now c.args.block.now c.in-Some.stay lengths c.requires.lengths c.requires.within.track there)
    (is_new stays c.args.block.now.id c.in-Some.stay c.requires.new (stay_id c.args.instance.now c.args.block.now c.in-Some.stay there)) c.clash-alone.ensures.formed
    c.clash-alone.ensures.placed
    _ c.is_none-2.result there (counted c.is_none-2.result c.clash_with.result lengths (c.in-Some.stay ∷ stays) c.clash_with.ensures c.is_none-2.ensures)
