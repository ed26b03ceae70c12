-- The records that are written of a timetable.
use Rattle.std.specs.Prelude.{ℕ, Bool, not, nat_lt, List, [], ◌∷◌, ◌++◌, map, flat_map, filter, length, slice_index_or, Option, Some, None, if◌then◌else◌, codes, decimal}
use Rattle.std.specs.List.{list_any}
use Rattle.shunt_base.specs.defs.Spelling.{minute_text}
use Rattle.shunt_rows.specs.defs.Written.{side_text}
use Rattle.shunt_instance.specs.declared.records.Station.{Station}
use Rattle.shunt_instance.specs.declared.records.TrackEnd.{TrackEnd}
use Rattle.shunt_instance.specs.declared.records.PlacedRun.{PlacedRun}
use Rattle.shunt_instance.specs.declared.records.Train.{Train}
use Rattle.shunt_instance.specs.declared.records.Timetable.{Timetable}
use Rattle.shunt_instance.specs.declared.records.Origin.{Origin}
use Rattle.shunt_instance.specs.declared.records.Origin.TheVariants as origin
use Rattle.shunt_instance.specs.defs.Words.{is_standing, track_names}

-- the names of the station's types
abbrev pub type_names : Station → List (List ℕ)
type_names station = map (λ t. t.name) station.types

-- the name of the platform or the track
abbrev pub place_name : Station → Origin → List ℕ
place_name station (origin.Platform p) = slice_index_or station.platforms p.0 []
place_name station (origin.Track t) = slice_index_or (track_names station) t.0 []

-- the names of the types of a train's units
abbrev pub unit_names : Station → Train → List (List ℕ)
unit_names station t = map (λ k. slice_index_or (type_names station) k.0 []) t.units

-- `stand,TRAIN,TRACK,TYPE..`
abbrev pub standing_row : Station → Train → List (List ℕ)
standing_row station t = codes "stand" ∷ t.name ∷ place_name station t.origin ∷ unit_names station t

-- `WORD,TRAIN,MINUTE,PLATFORM,TYPE..`
abbrev pub moving_row : Station → List ℕ → Train → List (List ℕ)
moving_row station word t = word ∷ t.name ∷ minute_text t.minute ∷ place_name station t.origin ∷ unit_names station t

-- the end by which a run came, `park,TRACK,SIDE`, or `unparked`
abbrev pub end_fields : Station → Option TrackEnd → List (List ℕ)
end_fields station None = codes "unparked" ∷ []
end_fields station (Some e) = codes "park" ∷ slice_index_or (track_names station) e.track.0 [] ∷ side_text e.side ∷ []

-- `placed,TRAIN,P,N,..` of a run of a train
abbrev pub placed_row : Station → Train → PlacedRun → List (List ℕ)
placed_row station t r = codes "placed" ∷ t.name ∷ decimal r.first ∷ decimal r.count ∷ end_fields station r.came_by

-- those of all runs of a train, and of these trains
abbrev pub placed_rows : Station → Train → List (List (List ℕ))
placed_rows station t = map (placed_row station t) t.placed

-- whether none of these trains has a placed run
abbrev pub all_to_come : List Train → Bool
all_to_come trains = not (list_any (λ t. nat_lt 0 (length t.placed)) trains)

-- the first record: version 2 where no unit is placed, else version 3
abbrev pub first_row : Timetable → List (List ℕ)
first_row t = codes "timetable" ∷ (if all_to_come t.arrive then codes "2" else codes "3") ∷ []

-- the first record, the standing trains, the arriving ones and the departing ones, each in their own order, and the placed runs by the trains
abbrev pub rows_of : Station → Timetable → List (List (List ℕ))
rows_of station t =
    first_row t ∷ map (standing_row station) (filter is_standing t.arrive)
    ++ map (moving_row station (codes "arrive")) (filter (λ r. not (is_standing r)) t.arrive)
    ++ map (moving_row station (codes "depart")) t.depart
    ++ flat_map (placed_rows station) t.arrive
