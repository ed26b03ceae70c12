-- Words on stations and trains.
use Rattle.std.specs.Prelude.{ℕ, ◌-◌, Bool, true, false, ◌||◌, ◌&&◌, ◌==◌, not, List, [], map, length, Option, option_map, unwrap_or, slice_get, slice_index, slice_index_or, find, position, sum_by, bytes_eq}
use Rattle.std.specs.List.{list_any}
use Rattle.shunt_base.specs.defs.Sides.{same_side}
use Rattle.shunt_base.specs.declared.ids.PlatformId.{PlatformId}
use Rattle.shunt_base.specs.declared.ids.TrackId.{TrackId}
use Rattle.shunt_base.specs.declared.ids.TypeId.{TypeId}
use Rattle.shunt_base.specs.declared.ids.Side.{Side}
use Rattle.shunt_base.specs.declared.ids.Side.TheVariants.{A, B}
use Rattle.shunt_instance.specs.declared.records.Track.{Track}
use Rattle.shunt_instance.specs.declared.records.Route.{Route}
use Rattle.shunt_instance.specs.declared.records.Station.{Station}
use Rattle.shunt_instance.specs.declared.records.Origin.{Origin}
use Rattle.shunt_instance.specs.declared.records.Origin.TheVariants as origin
use Rattle.shunt_instance.specs.declared.records.Train.{Train}

-- whether a track is open at a side
abbrev pub is_open : Track → Side → Bool
is_open t A = t.side_a
is_open t B = t.side_b

-- whether there is a track with this number that is open at a side
abbrev pub open_in : List Track → ℕ → Side → Bool
open_in tracks k side = unwrap_or (option_map (λ t. is_open t side) (slice_get tracks k)) false

-- the same of a station's tracks
abbrev pub is_open_at : Station → TrackId → Side → Bool
is_open_at s track side = open_in s.tracks track.0 side

-- what a route joins
abbrev pub way_of : Route → PlatformId × (TrackId × Side)
way_of r = (r.platform, (r.track, r.side))

-- whether a route joins these three
abbrev pub joins : PlatformId → TrackId → Side → Route → Bool
joins platform track side r = r.platform.0 == platform.0 && r.track.0 == track.0 && same_side r.side side

-- the cost of the route between a platform and a track's side, where there is one
abbrev pub route_cost : Station → PlatformId → TrackId → Side → Option ℕ
route_cost s platform track side = option_map (λ r. r.cost) (find (joins platform track side) s.routes)

-- whether a permit names a track and a type
abbrev pub is_permitted : Station → TrackId → TypeId → Bool
is_permitted s track kind = list_any (λ p. p.track.0 == track.0 && p.kind.0 == kind.0) s.permits

-- whether a track permits a type: no permit names the track, or one names both
abbrev pub permits : Station → TrackId → TypeId → Bool
permits s track kind = not (list_any (λ p. p.track.0 == track.0) s.permits) || is_permitted s track kind

-- the turn of a type in minutes
abbrev pub turn_of : Station → TypeId → ℕ
turn_of s kind = slice_index (map (λ t. t.turn) s.types) kind.0

-- whether a train stands on a track when the night opens
abbrev pub is_standing : Train → Bool
is_standing t = is_track t.origin
  where
    is_track : Origin → Bool
    is_track (origin.Platform p) = false
    is_track (origin.Track k) = true

-- whether a train has come already: it stands on a track, or some of its units have been placed
abbrev pub has_come : Train → Bool
has_come t = is_standing t || not (length t.placed == 0)

-- how many units these trains have
abbrev pub unit_count : List Train → ℕ
unit_count trains = sum_by (λ t. length t.units) trains

-- the names of these trains
abbrev pub names_of : List Train → List (List ℕ)
names_of trains = map (λ t. t.name) trains

-- the number of the first train with a name
abbrev pub train_of_name : List Train → List ℕ → Option ℕ
train_of_name trains name = position (λ t. bytes_eq t.name name) trains

-- the names of the station's tracks
abbrev pub track_names : Station → List (List ℕ)
track_names s = map (λ t. t.name) s.tracks

-- the number of the track with a name
abbrev pub track_of_name : Station → List ℕ → Option TrackId
track_of_name s name = option_map (λ k. record { 0 = k }) (position (λ t. bytes_eq t.name name) s.tracks)

-- the train with a number, or one without units past the last
abbrev pub train_at : List Train → ℕ → Train
train_at trains k = slice_index_or trains k (record { name = []; minute = 0; origin = origin.Platform (record { 0 = 0 }); units = []; placed = [] })

-- the minute of the train with a number
abbrev pub minute_at : List Train → ℕ → ℕ
minute_at trains k = slice_index (map (λ t. t.minute) trains) k

-- the type at a place of a train, from place 1
abbrev pub kind_at : Train → ℕ → TypeId
kind_at t place = slice_index_or t.units (place - 1) (record { 0 = 0 })
