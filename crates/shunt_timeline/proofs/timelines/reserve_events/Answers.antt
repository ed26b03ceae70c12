use Rattle.std.proofs.Common.{arith}
use Rattle.shunt_timeline.proofs.Tracks.{same_put, room_next}
use Rattle.shunt_timeline.proofs.timelines.reserve_events.Goals as goal

pub returns-in_err-reserve-clause-same : goal.returns-in_err-reserve-clause-same
returns-in_err-reserve-clause-same c = same_put c.args.tracks.now.items c.loop-index.tracks.items c.loop-index.index c.reserve.new.self c.index_mut.result.now
    c.loop-index.invariant.same (omega (arith, c.loop-index.tracks.ok.0)) c.index_mut.ensures.value c.reserve.ensures.length c.reserve.ensures.events c.reserve.ensures.capacity

pub loop-index-preserved : goal.loop-index-preserved
loop-index-preserved c = record {
  same = same_put c.args.tracks.now.items c.loop-index.tracks.items c.loop-index.index c.reserve.new.self c.index_mut.result.now c.loop-index.invariant.same
      (omega (arith, c.loop-index.tracks.ok.0)) c.index_mut.ensures.value c.reserve.ensures.length c.reserve.ensures.events c.reserve.ensures.capacity;
  room = room_next c.loop-index.tracks.items c.args.most c.loop-index.index c.reserve.new.self
      (omega (arith, c.loop-index.tracks.ok.0)) c.in_ok-reserve.ensures.ok c.loop-index.invariant.room;
}
