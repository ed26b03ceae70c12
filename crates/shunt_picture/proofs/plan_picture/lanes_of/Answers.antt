use Rattle.std.proofs.Common.{◌+◌, ap, subst, sym, All, List, arith}
use Rattle.std.proofs.lemmas.List.Elements.{All-push}
use Rattle.shunt_picture.specs.declared.records.Lane.{Lane}
use Rattle.shunt_picture.specs.defs.Lanes.{IsLaneOf}
use Rattle.shunt_picture.proofs.Ranges.{tracks_more}
use Rattle.shunt_picture.proofs.Laid.{stacked_more}
use Rattle.shunt_picture.proofs.plan_picture.lanes_of.Goals as goal

pub loop-track-preserved : goal.loop-track-preserved
loop-track-preserved c =
    let lane = c.in_ok-lane.lane in
    let lanes = c.loop-track.lanes.items in
    let more = c.push.new.self.items in
    let old = c.loop-track.invariant in
    let push = c.in_ok-push.ensures.items in
    let P = IsLaneOf c.args.instance.now c.args.findings.now c.args.blocks.now c.args.from c.args.to in
    let sum = ap (λ n. c.loop-track.bottom + n) c.height_of-bottom.ensures in
    let high = old.high in
    let low = c.in_ok-lane.ensures.low in
    let is = c.height_of-bottom.ensures in
    record {
      tracks = tracks_more lanes more lane c.loop-track.track old.tracks c.in_ok-lane.ensures.track push;
      lanes = subst (λ (l : List Lane). All P l) (sym push) (All-push P lanes lane old.lanes c.in_ok-lane.ensures.lane);
      stacked = stacked_more lanes more c.args.top c.loop-track.bottom (c.loop-track.bottom + c.height_of-bottom.result) lane old.stacked c.in_ok-lane.ensures.top push sum;
      high = omega (arith, high, low, is);
    }
