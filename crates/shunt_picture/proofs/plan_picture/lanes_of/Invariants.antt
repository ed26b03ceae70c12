use Rattle.std.proofs.Common.{◌≡◌, ◌≤◌, ◌+◌, ◌*◌, All, map}
use Rattle.std.specs.List.{range_with_len}
use Rattle.shunt_picture.specs.defs.Lanes.{IsLaneOf}
use Rattle.shunt_picture.specs.defs.Layouts.{AreStacked}
use Rattle.shunt_picture.proofs.plan_picture.lanes_of.Given as goal

abbrev pub invariant-loop-track : goal.invariant-loop-track
invariant-loop-track l = record {
  tracks : map (λ e. e.track.0) l.lanes.items ≡ range_with_len 0 l.track;
  lanes : All (IsLaneOf l.instance l.findings l.blocks l.from l.to) l.lanes.items;
  stacked : AreStacked l.top l.lanes.items l.bottom;
  high : l.bottom ≤ l.top + 13000 * l.track;
}
