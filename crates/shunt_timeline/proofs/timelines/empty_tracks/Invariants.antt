use Rattle.std.proofs.Common.{◌≡◌, ℕ, ◌<◌, [], length, take, get_or}
use Rattle.shunt_timeline.specs.declared.track.TrackTimeline.{TrackTimeline}
use Rattle.shunt_timeline.specs.defs.Sound.{lengths_of}
use Rattle.shunt_timeline.proofs.timelines.empty_tracks.Given as goal

abbrev pub invariant-loop-length : goal.invariant-loop-length
invariant-loop-length l = record {
  lengths : lengths_of l.tracks.items ≡ take l.length-index l.lengths;
  empty : (t : ℕ) (d : TrackTimeline) → t < length l.tracks.items → (get_or l.tracks.items t d).events.items ≡ [];
}
