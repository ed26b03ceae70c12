use Rattle.std.proofs.Common.{◌∙◌}
use Rattle.shunt_picture.specs.defs.LaneTexts.{lane_text}
use Rattle.shunt_picture.proofs.Drawn.{one_item}
use Rattle.shunt_picture.proofs.picture_texts.push_lanes.Goals as goal

pub loop-lane-preserved : goal.loop-lane-preserved
loop-lane-preserved c = one_item (lane_text c.args.from c.args.right c.args.kinds.now) c.args.lanes.now c.loop-lane.lane-index c.lane-item.result c.loop-lane.text
    c.push_lane.new.text c.loop-lane-test.true c.lane-item.is c.in_ok-push_lane.ensures ∙ c.loop-lane.invariant
