-- What is kept at the events of a track, each number as a fresh count of all stays.
use Rattle.std.specs.Prelude.{◌≡◌, ℕ, ◌==◌, true, false, sum_by, count_by, List, if◌then◌else◌}
use Rattle.shunt_lists.specs.defs.Members.{In, Ascends}
use Rattle.shunt_base.specs.declared.keys.Stay.{Stay}
use Rattle.shunt_stays.specs.defs.Crossings.{crosses, stands_at, load_at}
use Rattle.shunt_base.specs.declared.keys.EventKey.{EventKey}
use Rattle.shunt_timeline.specs.declared.events.StayEvent.{StayEvent}
use Rattle.shunt_timeline.specs.declared.events.TrackLoad.{TrackLoad}
use Rattle.shunt_timeline.specs.defs.Levels.{key_of, at}

-- an event is of one of these stays on track t; it knows how many stays cross it by coming before it, and what stands just after it
pub record IsKeptAt (stays : List Stay) (t : ℕ) (e : StayEvent) : Type 0 where
  pub stay : In e.stay stays
  pub track : e.stay.track.0 ≡ t
  pub crossings : e.enters ≡ true → e.crossings ≡ count_by (λ b. crosses b e.stay) stays
  pub none : e.enters ≡ false → e.crossings ≡ 0
  pub standing : e.standing ≡ count_by (stands_at t (key_of e)) stays
  pub load : e.load ≡ load_at stays t (key_of e)

-- what is added up over the stays on a track
abbrev pub sum_on : ℕ → (Stay → ℕ) → List Stay → ℕ
sum_on t f stays = sum_by (λ s. if s.track.0 == t then f s else 0) stays

-- the events are in key order, and among them are one entry and one leave of each stay on track t: what is added up over the ones or the others is what is added up over the stays
pub record IsKeptTrack (stays : List Stay) (t : ℕ) (events : List StayEvent) : Type 0 where
  pub ascends : Ascends at events
  pub each : (e : StayEvent) → In e events → IsKeptAt stays t e
  pub entries : (f : Stay → ℕ) → sum_by (λ e. if e.enters then f e.stay else 0) events ≡ sum_on t f stays
  pub leaves : (f : Stay → ℕ) → sum_by (λ e. if e.enters then 0 else f e.stay) events ≡ sum_on t f stays

-- what stands on track t just after the moment of a key
pub record IsLevel (stays : List Stay) (t : ℕ) (k : EventKey) (level : TrackLoad) : Type 0 where
  pub standing : level.standing ≡ count_by (stands_at t k) stays
  pub load : level.load ≡ load_at stays t k
