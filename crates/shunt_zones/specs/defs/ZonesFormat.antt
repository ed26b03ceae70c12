-- The format of zones over a station.
use Rattle.std.specs.Prelude.{ℕ, ◌<◌, ◌≤◌, ◌==◌, Bool, true, false, not, ◌&&◌, IsTrue, All, nat_lt, List, [], ◌∷◌, ◌++◌, length, if◌then◌else◌, codes, bytes_eq}
use Rattle.std.specs.List.{list_any}
use Rattle.shunt_lists.specs.defs.Members.{AreDistinct}
use Rattle.shunt_base.specs.declared.ids.Side.{Side}
use Rattle.shunt_base.specs.defs.Sides.{same_side}
use Rattle.shunt_base.specs.defs.Spelling.{IsName, is_name_text}
use Rattle.shunt_rows.specs.declared.fault.RowKind.TheVariants as kinds
use Rattle.shunt_rows.specs.defs.Records.{at}
use Rattle.shunt_rows.specs.defs.Checks.{Judged, must, says, ◌>>=◌}
use Rattle.shunt_rows.specs.defs.Fields.{is_word, no_word, fields_in, side_in, named_in, known_in}
use Rattle.shunt_rows.specs.defs.Formats.{Format}
use Rattle.shunt_instance.specs.declared.records.Station.{Station}
use Rattle.shunt_instance.specs.defs.Words.{joins}
use Rattle.shunt_plan.specs.defs.BlockRecords.{first_in}
use Rattle.shunt_zones.specs.declared.records.Over.{Over}
use Rattle.shunt_zones.specs.declared.records.Zones.{Zones}
use Rattle.shunt_zones.specs.declared.ways.Way.{Way}

-- whether the station has a route between a platform and a side of a track
unfoldable pub has_route : Station → Way → Bool
has_route s w = list_any (joins w.platform w.track w.side) s.routes

abbrev pub way_from : ℕ → ℕ → Side → Way
way_from platform track side = record { platform = record { 0 = platform }; track = record { 0 = track }; side = side }

-- `PLATFORM,TRACK,SIDE` from field 2 on, between which the station has a route
unfoldable pub way_in : Station → List (List ℕ) → Judged Way
way_in s row = do
  platform ← named_in (λ p. p) s.platforms row 2
  track ← named_in (λ t. t.name) s.tracks row 3
  side ← side_in row 4
  _ ← must (has_route s (way_from platform track side)) 4 kinds.Unknown
  says (way_from platform track side)

-- a zone over a way
abbrev pub over_way : Way → ℕ → Over
over_way w zone = record { platform = w.platform; track = w.track; side = w.side; zone = zone }

-- whether one of these is the same in all four
abbrev pub is_same : Over → Over → Bool
is_same o p = o.platform.0 == p.platform.0 && o.track.0 == p.track.0 && same_side o.side p.side && o.zone == p.zone

unfoldable pub stands : List Over → Over → Bool
stands over o = list_any (is_same o) over

-- no zones
abbrev pub no_zones : Zones
no_zones = record { names = []; over = [] }

-- `zones,1`
unfoldable pub first_of : List (List ℕ) → Judged Zones
first_of row = first_in (codes "zones") no_zones row

-- `zone,NAME`; the 65th is Limit
unfoldable pub zone_of : Zones → List (List ℕ) → Judged Zones
zone_of z row = do
  _ ← fields_in row 2 2
  _ ← must (nat_lt (length z.names) 64) 1 kinds.Limit
  _ ← must (is_name_text (at row 2)) 2 kinds.Name
  _ ← must (not (list_any (λ n. bytes_eq n (at row 2)) z.names)) 2 kinds.Repeat
  says record z { names = z.names ++ at row 2 ∷ [] }

-- one of the zones with these names, at field 5, over a way; none of these is the same in all four
unfoldable pub over_in : List (List ℕ) → List Over → Way → List (List ℕ) → Judged Over
over_in names over way row = do
  zone ← known_in row 5 names
  _ ← must (not (stands over (over_way way zone))) 5 kinds.Repeat
  says (over_way way zone)

-- `over,PLATFORM,TRACK,SIDE,ZONE`; the four once
unfoldable pub over_of : Station → Zones → List (List ℕ) → Judged Zones
over_of s z row = do
  _ ← fields_in row 5 5
  way ← way_in s row
  o ← over_in z.names z.over way row
  says record z { over = z.over ++ o ∷ [] }

-- a later record, by its word
unfoldable pub later_of : Station → Zones → List (List ℕ) → Judged Zones
later_of s z row =
    if is_word row (codes "zone") then zone_of z row
    else if is_word row (codes "over") then over_of s z row
    else no_word z

-- the zones file: no record is the last one, and none is missing behind the first
abbrev pub zones_format : Station → Format Zones Zones
zones_format s = record { first = first_of; later = later_of s; has_ended = λ z. false; is_whole = λ z. true; value = λ z. z }

-- a zone with that many names lies over a way of the station
pub record IsOverWay (s : Station) (zones : ℕ) (o : Over) : Type 0 where
  pub platform : o.platform.0 < length s.platforms
  pub track : o.track.0 < length s.tracks
  pub route : IsTrue (has_route s (record { platform = o.platform; track = o.track; side = o.side }))
  pub zone : o.zone < zones

-- zones that a file can state over a station
pub record IsZones (s : Station) (z : Zones) : Type 0 where
  pub few : length z.names ≤ 64
  pub names : All IsName z.names
  pub names_differ : AreDistinct z.names
  pub over : All (IsOverWay s (length z.names)) z.over
  pub over_differ : AreDistinct z.over
