use Rattle.std.proofs.Common.{◌+◌, arith}
use Rattle.shunt_make.specs.defs.Made.{track_of}
use Rattle.shunt_make.proofs.Chain.{numbered_turn, state_turn}
use Rattle.shunt_make.proofs.stations.made_tracks.Goals as goal

pub loop-i-preserved : goal.loop-i-preserved
loop-i-preserved c = record {
  made = numbered_turn track_of c.args.draws.now.state 1 c.loop-i.i (c.loop-i.i + 1) c.loop-i.draws.state c.loop-i.tracks.items c.push.new.self.items c.in_ok-made_track.field-0
      c.loop-i.invariant.made c.loop-i.invariant.state (omega arith) c.in_ok-made_track.ensures.made c.in_ok-push.ensures.items;
  state = state_turn c.args.draws.now.state c.loop-i.i c.loop-i.draws.state c.made_track.new.draws.state c.loop-i.invariant.state c.made_track.ensures.state;
}
