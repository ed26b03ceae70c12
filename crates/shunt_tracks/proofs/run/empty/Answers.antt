use Rattle.std.proofs.Common.{ap}
use Rattle.shunt_tracks.specs.defs.Blocks.{blocks_of}
use Rattle.shunt_tracks.proofs.run.empty.Goals as goal
use Rattle.shunt_stays.proofs.Tracks.{empty_more}

pub loop-length-preserved : goal.loop-length-preserved
loop-length-preserved c = empty_more (λ w. blocks_of w.items) c.args.lengths.now c.loop-length._length-index c.loop-length.tracks.items c.push.new.self.items c.new.result
    c.loop-length-test.true (ap blocks_of c.new.ensures.items) c.in_ok-push.ensures.items c.loop-length.invariant
