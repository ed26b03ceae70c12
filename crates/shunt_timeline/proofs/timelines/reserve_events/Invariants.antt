use Rattle.std.proofs.Common.{ℕ, ◌<◌, ◌≤◌, get_or, vec_capacity}
use Rattle.shunt_timeline.specs.declared.track.TrackTimeline.{TrackTimeline}
use Rattle.shunt_timeline.specs.defs.Sound.{AreSame}
use Rattle.shunt_timeline.proofs.timelines.reserve_events.Given as goal

abbrev pub invariant-loop-index : goal.invariant-loop-index
invariant-loop-index l = record {
  same : AreSame l.initial.tracks.items l.tracks.items;
  room : (t : ℕ) (d : TrackTimeline) → t < l.index → l.most ≤ vec_capacity (get_or l.tracks.items t d).events;
}
