use Rattle.std.proofs.Common.{arith, ap, ◌≤◌}
use Rattle.shunt_stays.specs.defs.Run.{load}
use Rattle.shunt_tracks.specs.defs.Dues.{move_of}
use Rattle.shunt_tracks.specs.defs.Blocks.{blocks_of}
use Rattle.shunt_tracks.proofs.Ends.{load_left}
use Rattle.shunt_tracks.proofs.blocks.leave.Goals as goal

pub load-requires : goal.load-requires
load-requires c =
    let fit : load (blocks_of c.take.new.blocks.items) ≤ c.args.room = load_left c.args.room (move_of c.args.due.now) (blocks_of c.args.blocks.now.items)
    (blocks_of c.take.new.blocks.items) c.requires.leaves c.if-not-take.ensures.out c.requires.fit in
    omega (arith, ap (λ l. load (blocks_of l)) c.deref.ensures.value, c.ranges.room.fits)
