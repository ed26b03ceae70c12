-- What is always true of timelines.
use Rattle.std.specs.Prelude.{◌≡◌, ℕ, ◌+◌, ◌*◌, ◌^◌, ◌<◌, ◌≤◌, length, map, vec_capacity, slice_index_or, List}
use Rattle.shunt_base.specs.declared.keys.Stay.{Stay}
use Rattle.shunt_base.specs.defs.Keys.{AreStays}
use Rattle.shunt_stays.specs.defs.Run.{AreOnTracks}
use Rattle.shunt_stays.specs.defs.Crossings.{pairs_in, overs_in}
use Rattle.shunt_timeline.specs.declared.track.TrackTimeline.{TrackTimeline}
use Rattle.shunt_timeline.specs.defs.Kept.{IsKeptTrack}
use Rattle.shunt_lists.specs.defs.Members.{Ascends}

abbrev pub lengths_of : List TrackTimeline → List ℕ
lengths_of tracks = map (λ t. t.length) tracks

-- each track keeps the stays on it, and has room for an entry and a leave of each stay that is there or may come
pub record AreSound (stays : List Stay) (tracks : List TrackTimeline) (spare : ℕ) : Type 0 where
  pub formed : AreStays stays
  pub placed : AreOnTracks (lengths_of tracks) stays
  pub sorted : Ascends (λ s. s.id) stays
  pub few : length stays ≤ 65536
  pub kept : (t : ℕ) (d : TrackTimeline) → t < length tracks → IsKeptTrack stays t (slice_index_or tracks t d).events.items
  pub room : (t : ℕ) (d : TrackTimeline) → t < length tracks → 2 * (length stays + spare) ≤ vec_capacity (slice_index_or tracks t d).events

-- the totals are those of a fresh count, and there is room for the stays that may come
pub record IsSoundTrack (stays : List Stay) (tracks : List TrackTimeline) (spare room pairs over : ℕ) : Type 0 where
  pub sound : AreSound stays tracks spare
  pub fits : length stays + spare ≤ room
  pub small : length stays + spare < 2 ^ 62
  pub pairs_are : pairs ≡ pairs_in stays
  pub over_are : over ≡ overs_in (lengths_of tracks) stays

-- tracks of the same lengths and events, with no less room
pub record AreSame (before after : List TrackTimeline) : Type 0 where
  pub count : length after ≡ length before
  pub lengths : lengths_of after ≡ lengths_of before
  pub events : (t : ℕ) (d : TrackTimeline) → t < length before → (slice_index_or after t d).events.items ≡ (slice_index_or before t d).events.items
  pub room : (t : ℕ) (d : TrackTimeline) → t < length before → vec_capacity (slice_index_or before t d).events ≤ vec_capacity (slice_index_or after t d).events
