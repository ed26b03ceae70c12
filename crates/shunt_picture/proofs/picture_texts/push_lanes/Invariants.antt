use Rattle.std.proofs.Common.{◌≡◌, ◌++◌, drop}
use Rattle.std.specs.List.{flat_map}
use Rattle.shunt_picture.specs.defs.LaneTexts.{lane_text}
use Rattle.shunt_picture.proofs.picture_texts.push_lanes.Given as goal

abbrev pub invariant-loop-lane : goal.invariant-loop-lane
invariant-loop-lane l = l.text ++ flat_map (lane_text l.from l.right l.kinds) (drop l.lane-index l.lanes) ≡ l.fn.text ++ flat_map (lane_text l.from l.right l.kinds) l.lanes
