-- What the records of a station file state.
use Rattle.std.specs.Prelude.{ℕ, Bool, true, false, not, ◌&&◌, ◌==◌, nat_lt, List, [], ◌∷◌, ◌++◌, length, Option, Some, None, option_map, position, if◌then◌else◌, codes, bytes_eq}
use Rattle.std.specs.List.{list_any}
use Rattle.shunt_base.specs.declared.ids.PlatformId.{PlatformId}
use Rattle.shunt_base.specs.declared.ids.TrackId.{TrackId}
use Rattle.shunt_base.specs.declared.ids.TypeId.{TypeId}
use Rattle.shunt_base.specs.declared.ids.Side.{Side}
use Rattle.shunt_base.specs.defs.Spelling.{is_name_text}
use Rattle.shunt_rows.specs.declared.fault.RowKind.TheVariants as kinds
use Rattle.shunt_rows.specs.defs.Records.{at}
use Rattle.shunt_rows.specs.defs.Checks.{Judged, must, says, found, ◌>>=◌}
use Rattle.shunt_rows.specs.defs.Fields.{is_word, no_word, fields_in, number_in, side_in}
use Rattle.shunt_rows.specs.defs.Formats.{Format}
use Rattle.shunt_instance.specs.declared.records.Track.{Track}
use Rattle.shunt_instance.specs.declared.records.UnitType.{UnitType}
use Rattle.shunt_instance.specs.declared.records.Station.{Station}
use Rattle.shunt_instance.specs.defs.Words.{is_open_at, joins, track_of_name, is_permitted}

-- What the records so far state: the file's version, the station, and whether its cost record was read.
pub record StationDraft : Type 0 where
  pub version : ℕ
  pub station : Station
  pub is_costed : Bool

-- a station with nothing in it
abbrev pub empty_station : List ℕ → Station
empty_station name = record { name = name; types = []; platforms = []; tracks = []; routes = []; permits = []; split = 0; couple = 0; unparked = 0 }

-- `station,VERSION,NAME`, with VERSION 1 or 2
unfoldable pub first_of : List (List ℕ) → Judged StationDraft
first_of row = do
  _ ← must (is_word row (codes "station")) 1 kinds.Kind
  _ ← fields_in row 3 3
  version ← number_in row 2 1 2
  _ ← must (is_name_text (at row 3)) 3 kinds.Name
  says record { version = version; station = empty_station (at row 3); is_costed = false }

-- whether a type has this name
abbrev pub has_type : List UnitType → List ℕ → Bool
has_type types name = list_any (λ t. bytes_eq t.name name) types

-- whether a platform has this name
abbrev pub has_platform : List (List ℕ) → List ℕ → Bool
has_platform platforms name = list_any (λ p. bytes_eq p name) platforms

-- whether a track has this name
abbrev pub has_track : List Track → List ℕ → Bool
has_track tracks name = list_any (λ t. bytes_eq t.name name) tracks

-- the number of the type with a name
unfoldable pub type_of_name : Station → List ℕ → Option TypeId
type_of_name s name = option_map (λ k. record { 0 = k }) (position (λ t. bytes_eq t.name name) s.types)

-- the number of the platform with a name
unfoldable pub platform_of_name : Station → List ℕ → Option PlatformId
platform_of_name s name = option_map (λ k. record { 0 = k }) (position (λ p. bytes_eq p name) s.platforms)

-- At which sides a track is open.
pub record OpenSides : Type 0 where
  pub side_a : Bool
  pub side_b : Bool

-- the sides that `A`, `B` and `AB` name
unfoldable pub open_sides_of : List ℕ → Option OpenSides
open_sides_of text =
    if bytes_eq text (codes "A") then Some record { side_a = true; side_b = false }
    else if bytes_eq text (codes "B") then Some record { side_a = false; side_b = true }
    else if bytes_eq text (codes "AB") then Some record { side_a = true; side_b = true }
    else None

-- `type,NAME,LENGTH,TURN`; the 41st is Limit
unfoldable pub type_of : StationDraft → List (List ℕ) → Judged StationDraft
type_of d row = do
  _ ← fields_in row 4 4
  _ ← must (nat_lt (length d.station.types) 40) 1 kinds.Limit
  _ ← must (is_name_text (at row 2)) 2 kinds.Name
  _ ← must (not (has_type d.station.types (at row 2))) 2 kinds.Repeat
  size ← number_in row 3 1 5000
  turn ← number_in row 4 1 1440
  says record d { station = record d.station { types = d.station.types ++ record { name = at row 2; length = size; turn = turn } ∷ [] } }

-- `platform,NAME`; the 31st is Limit
unfoldable pub platform_of : StationDraft → List (List ℕ) → Judged StationDraft
platform_of d row = do
  _ ← fields_in row 2 2
  _ ← must (nat_lt (length d.station.platforms) 30) 1 kinds.Limit
  _ ← must (is_name_text (at row 2)) 2 kinds.Name
  _ ← must (not (has_platform d.station.platforms (at row 2))) 2 kinds.Repeat
  says record d { station = record d.station { platforms = d.station.platforms ++ at row 2 ∷ [] } }

-- `track,NAME,LENGTH,SIDES`; the 61st is Limit
unfoldable pub track_of : StationDraft → List (List ℕ) → Judged StationDraft
track_of d row = do
  _ ← fields_in row 4 4
  _ ← must (nat_lt (length d.station.tracks) 60) 1 kinds.Limit
  _ ← must (is_name_text (at row 2)) 2 kinds.Name
  _ ← must (not (has_track d.station.tracks (at row 2))) 2 kinds.Repeat
  size ← number_in row 3 1 50000
  sides ← found (record { side_a = true; side_b = true }) (open_sides_of (at row 4)) 4 kinds.Kind
  says record d { station = record d.station { tracks = d.station.tracks ++ record { name = at row 2; length = size; side_a = sides.side_a; side_b = sides.side_b } ∷ [] } }

-- whether a route joins these three already
unfoldable pub stands : Station → PlatformId → TrackId → Side → Bool
stands s platform track side = list_any (joins platform track side) s.routes

-- `route,PLATFORM,TRACK,SIDE,COST`; the three once, and at a side at which the track is open
unfoldable pub route_of : StationDraft → List (List ℕ) → Judged StationDraft
route_of d row = do
  _ ← fields_in row 5 5
  platform ← found (record { 0 = 0 }) (platform_of_name d.station (at row 2)) 2 kinds.Unknown
  track ← found (record { 0 = 0 }) (track_of_name d.station (at row 3)) 3 kinds.Unknown
  side ← side_in row 4
  _ ← must (not (stands d.station platform track side)) 4 kinds.Repeat
  _ ← must (is_open_at d.station track side) 4 kinds.ClosedSide
  price ← number_in row 5 0 1000000
  says record d { station = record d.station { routes = d.station.routes ++ record { platform = platform; track = track; side = side; cost = price } ∷ [] } }

-- `permit,TRACK,TYPE`; both together once
unfoldable pub permit_of : StationDraft → List (List ℕ) → Judged StationDraft
permit_of d row = do
  _ ← fields_in row 3 3
  track ← found (record { 0 = 0 }) (track_of_name d.station (at row 2)) 2 kinds.Unknown
  kind ← found (record { 0 = 0 }) (type_of_name d.station (at row 3)) 3 kinds.Unknown
  _ ← must (not (is_permitted d.station track kind)) 3 kinds.Repeat
  says record d { station = record d.station { permits = d.station.permits ++ record { track = track; kind = kind } ∷ [] } }

-- `cost,SPLIT,COUPLE,UNPARKED`, once
unfoldable pub cost_of : StationDraft → List (List ℕ) → Judged StationDraft
cost_of d row = do
  _ ← fields_in row 4 4
  _ ← must (not d.is_costed) 1 kinds.Repeat
  split ← number_in row 2 0 1000000
  couple ← number_in row 3 0 1000000
  unparked ← number_in row 4 0 1000000
  says record d { station = record d.station { split = split; couple = couple; unparked = unparked }; is_costed = true }

-- a later record, by its word; `permit` is one in version 2 alone
unfoldable pub later_of : StationDraft → List (List ℕ) → Judged StationDraft
later_of d row =
    if is_word row (codes "type") then type_of d row
    else if is_word row (codes "platform") then platform_of d row
    else if is_word row (codes "track") then track_of d row
    else if is_word row (codes "route") then route_of d row
    else if is_word row (codes "cost") then cost_of d row
    else if d.version == 2 && is_word row (codes "permit") then permit_of d row
    else no_word d

-- the station file: no record is the last one, and a cost record must be there
abbrev pub station_format : Format StationDraft Station
station_format = record { first = first_of; later = later_of; has_ended = λ d. false; is_whole = λ d. d.is_costed; value = λ d. d.station }
