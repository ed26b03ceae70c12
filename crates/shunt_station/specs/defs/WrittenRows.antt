-- The records of a station as they are written.
use Rattle.std.specs.Prelude.{◌≡◌, ℕ, Bool, true, false, List, [], ◌∷◌, ◌++◌, map, slice_index_or, Ok, codes}
use Rattle.std.specs.Fmt.{decimal}
use Rattle.shunt_base.specs.declared.ids.PlatformId.{PlatformId}
use Rattle.shunt_base.specs.declared.ids.TrackId.{TrackId}
use Rattle.shunt_base.specs.declared.ids.TypeId.{TypeId}
use Rattle.shunt_rows.specs.defs.Records.{records_of}
use Rattle.shunt_rows.specs.defs.Formats.{reading}
use Rattle.shunt_rows.specs.defs.Written.{side_text}
use Rattle.shunt_instance.specs.declared.records.UnitType.{UnitType}
use Rattle.shunt_instance.specs.declared.records.Track.{Track}
use Rattle.shunt_instance.specs.declared.records.Route.{Route}
use Rattle.shunt_instance.specs.declared.records.Permit.{Permit}
use Rattle.shunt_instance.specs.declared.records.Station.{Station}
use Rattle.shunt_station.specs.defs.StatedStations.{station_format}

-- the version that is written
abbrev pub written_version : ℕ
written_version = 2

-- the name of the type with a number
abbrev pub type_name : List UnitType → TypeId → List ℕ
type_name types k = slice_index_or (map (λ t. t.name) types) k.0 []

-- the name of the platform with a number
abbrev pub platform_name : List (List ℕ) → PlatformId → List ℕ
platform_name platforms k = slice_index_or platforms k.0 []

-- the name of the track with a number
abbrev pub track_name : List Track → TrackId → List ℕ
track_name tracks k = slice_index_or (map (λ t. t.name) tracks) k.0 []

-- the letters of the sides at which a track is open
abbrev pub ends_text : Bool → Bool → List ℕ
ends_text true true = codes "AB"
ends_text true false = codes "A"
ends_text false b = codes "B"

-- `station,2,NAME`
abbrev pub head_row : Station → List (List ℕ)
head_row s = codes "station" ∷ decimal written_version ∷ s.name ∷ []

-- `type,NAME,LENGTH,TURN`
abbrev pub type_row : UnitType → List (List ℕ)
type_row t = codes "type" ∷ t.name ∷ decimal t.length ∷ decimal t.turn ∷ []

-- `platform,NAME`
abbrev pub platform_row : List ℕ → List (List ℕ)
platform_row p = codes "platform" ∷ p ∷ []

-- `track,NAME,LENGTH,SIDES`
abbrev pub track_row : Track → List (List ℕ)
track_row t = codes "track" ∷ t.name ∷ decimal t.length ∷ ends_text t.side_a t.side_b ∷ []

-- `route,PLATFORM,TRACK,SIDE,COST`, by the names of the station's platforms and tracks
abbrev pub route_row : Station → Route → List (List ℕ)
route_row s r = codes "route" ∷ platform_name s.platforms r.platform ∷ track_name s.tracks r.track ∷ side_text r.side ∷ decimal r.cost ∷ []

-- `permit,TRACK,TYPE`, by the names of the station's tracks and types
abbrev pub permit_row : Station → Permit → List (List ℕ)
permit_row s p = codes "permit" ∷ track_name s.tracks p.track ∷ type_name s.types p.kind ∷ []

-- `cost,SPLIT,COUPLE,UNPARKED`
abbrev pub cost_row : Station → List (List ℕ)
cost_row s = codes "cost" ∷ decimal s.split ∷ decimal s.couple ∷ decimal s.unparked ∷ []

-- the records behind the name: the types, platforms, tracks, routes and permits, each list in its own order, and the costs
abbrev pub rest_rows : Station → List (List (List ℕ))
rest_rows s = map type_row s.types ++ (map platform_row s.platforms ++ (map track_row s.tracks
    ++ (map (route_row s) s.routes ++ (map (permit_row s) s.permits ++ cost_row s ∷ []))))

-- the records of a station: its name, and those behind it
abbrev pub rows_of : Station → List (List (List ℕ))
rows_of s = head_row s ∷ rest_rows s

-- the records of a text are those of the station, and state it
pub record ReadsAsStation (s : Station) (text : List ℕ) : Type 0 where
  pub rows : records_of text ≡ rows_of s
  pub value : reading station_format (records_of text) ≡ Ok s
