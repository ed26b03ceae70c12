-- When a station is well formed, and a timetable over it.
use Rattle.std.specs.Prelude.{◌≡◌, ◌+◌, ◌<◌, ◌≤◌, false, ◌||◌, not, IsTrue, List, [], ◌++◌, map, filter, length, All, AllPairs, IfSome}
use Rattle.shunt_lists.specs.defs.Members.{AreDistinct}
use Rattle.shunt_base.specs.defs.Spelling.{IsName}
use Rattle.shunt_instance.specs.declared.records.UnitType.{UnitType}
use Rattle.shunt_instance.specs.declared.records.Track.{Track}
use Rattle.shunt_instance.specs.declared.records.Route.{Route}
use Rattle.shunt_instance.specs.declared.records.Permit.{Permit}
use Rattle.shunt_instance.specs.declared.records.Station.{Station}
use Rattle.shunt_instance.specs.declared.records.Origin.{Origin}
use Rattle.shunt_instance.specs.declared.records.Origin.TheVariants as origin
use Rattle.shunt_instance.specs.declared.records.PlacedRun.{PlacedRun}
use Rattle.shunt_instance.specs.declared.records.Train.{Train}
use Rattle.shunt_instance.specs.declared.records.Timetable.{Timetable}
use Rattle.shunt_instance.specs.defs.Words.{is_open_at, way_of, is_standing, unit_count, names_of}

-- a name, a length of 1 to 5,000 dm and a turn of 1 to 1,440 minutes
pub record IsUnitType (t : UnitType) : Type 0 where
  pub name : IsName t.name
  pub some : 1 ≤ t.length
  pub long : t.length ≤ 5000
  pub turns : 1 ≤ t.turn
  pub turn : t.turn ≤ 1440

-- a name, a length of 1 to 50,000 dm, and open at a side
pub record IsTrack (t : Track) : Type 0 where
  pub name : IsName t.name
  pub some : 1 ≤ t.length
  pub long : t.length ≤ 50000
  pub open_at : IsTrue (t.side_a || t.side_b)

-- it joins a platform and a track of the station by a side at which that track is open, and costs at most 1,000,000
pub record IsRoute (s : Station) (r : Route) : Type 0 where
  pub platform : r.platform.0 < length s.platforms
  pub track : r.track.0 < length s.tracks
  pub open_at : IsTrue (is_open_at s r.track r.side)
  pub cost : r.cost ≤ 1000000

-- it names a track and a type of the station
pub record IsPermit (s : Station) (p : Permit) : Type 0 where
  pub track : p.track.0 < length s.tracks
  pub kind : p.kind.0 < length s.types

-- a station within the limits: names are distinct, each route is one of its own and no two join the same, no permit stands twice
pub record IsStation (s : Station) : Type 0 where
  pub name : IsName s.name
  pub few_types : length s.types ≤ 40
  pub types : All IsUnitType s.types
  pub type_names : AreDistinct (map (λ t. t.name) s.types)
  pub few_platforms : length s.platforms ≤ 30
  pub platforms : All IsName s.platforms
  pub platform_names : AreDistinct s.platforms
  pub few_tracks : length s.tracks ≤ 60
  pub tracks : All IsTrack s.tracks
  pub track_names : AreDistinct (map (λ t. t.name) s.tracks)
  pub routes : All (IsRoute s) s.routes
  pub ways : AreDistinct (map way_of s.routes)
  pub permits : All (IsPermit s) s.permits
  pub permits_differ : AreDistinct s.permits
  pub split : s.split ≤ 1000000
  pub couple : s.couple ≤ 1000000
  pub unparked : s.unparked ≤ 1000000

-- a platform or a track of the station
abbrev pub IsOrigin : Station → Origin → Type 0
IsOrigin s (origin.Platform p) = p.0 < length s.platforms
IsOrigin s (origin.Track t) = t.0 < length s.tracks

-- units of a train that has that many; on a track only where the train doesn't stand there itself, by an end that is open
pub record IsPlacedRun (s : Station) (t : Train) (r : PlacedRun) : Type 0 where
  pub first : 1 ≤ r.first
  pub some : 1 ≤ r.count
  pub within : r.first + r.count ≤ length t.units + 1
  pub moved : IfSome r.came_by (λ e. is_standing t ≡ false)
  pub track : IfSome r.came_by (λ e. e.track.0 < length s.tracks)
  pub open_at : IfSome r.came_by (λ e. IsTrue (is_open_at s e.track e.side))

-- runs of a train in the order of their places, of which no two share a unit
pub record ArePlaced (s : Station) (t : Train) : Type 0 where
  pub each : All (IsPlacedRun s t) t.placed
  pub apart : AllPairs (λ r later. r.first + r.count ≤ later.first) t.placed

-- a name, a minute of two days, an origin of the station, 1 to 8 units of its types, and those of them that have come already
pub record IsTrain (s : Station) (t : Train) : Type 0 where
  pub name : IsName t.name
  pub minute : t.minute < 2880
  pub origin : IsOrigin s t.origin
  pub some : 1 ≤ length t.units
  pub few : length t.units ≤ 8
  pub kinds : All (λ k. k.0 < length s.types) t.units
  pub placed : ArePlaced s t

-- a list of trains within the limits, with distinct names
pub record AreTrains (s : Station) (trains : List Train) : Type 0 where
  pub few : length trains ≤ 100
  pub units : unit_count trains ≤ 160
  pub each : All (IsTrain s) trains
  pub names : AreDistinct (names_of trains)

-- the standing trains come before the others
abbrev pub StandingFirst : List Train → Type 0
StandingFirst trains = trains ≡ filter is_standing trains ++ filter (λ t. not (is_standing t)) trains

-- both lists are trains of the station; standing trains come first in `arrive`, each at minute 0, and none departs; nor has a departing
-- train placed units
pub record IsTimetable (s : Station) (t : Timetable) : Type 0 where
  pub arrive : AreTrains s t.arrive
  pub depart : AreTrains s t.depart
  pub first : StandingFirst t.arrive
  pub at_start : All (λ r. IsTrue (is_standing r) → r.minute ≡ 0) t.arrive
  pub from_platform : All (λ r. is_standing r ≡ false) t.depart
  pub to_come : All (λ r. r.placed ≡ []) t.depart
