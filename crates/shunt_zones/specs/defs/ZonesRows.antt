-- The records of zones as they are written.
use Rattle.std.specs.Prelude.{◌≡◌, ℕ, List, [], ◌∷◌, ◌++◌, map, slice_index_or, Ok, codes}
use Rattle.std.specs.Fmt.{decimal}
use Rattle.shunt_base.specs.declared.ids.PlatformId.{PlatformId}
use Rattle.shunt_rows.specs.defs.Records.{records_of}
use Rattle.shunt_rows.specs.defs.Written.{side_text}
use Rattle.shunt_rows.specs.defs.Formats.{reading}
use Rattle.shunt_instance.specs.declared.records.Station.{Station}
use Rattle.shunt_plan.specs.defs.PlanRows.{track_name}
use Rattle.shunt_zones.specs.declared.records.Over.{Over}
use Rattle.shunt_zones.specs.declared.records.Zones.{Zones}
use Rattle.shunt_zones.specs.defs.ZonesFormat.{zones_format}

-- the version that is written
abbrev pub written_version : ℕ
written_version = 1

-- the name of the platform with a number
abbrev pub platform_name : Station → PlatformId → List ℕ
platform_name s p = slice_index_or s.platforms p.0 []

-- `zones,1`
abbrev pub head_row : List (List ℕ)
head_row = codes "zones" ∷ decimal written_version ∷ []

-- `zone,NAME`
abbrev pub zone_row : List ℕ → List (List ℕ)
zone_row name = codes "zone" ∷ name ∷ []

-- `over,PLATFORM,TRACK,SIDE,ZONE`, by the names of the station's platforms and tracks and of these zones
abbrev pub over_row : Station → List (List ℕ) → Over → List (List ℕ)
over_row s names o = codes "over" ∷ platform_name s o.platform ∷ track_name s o.track ∷ side_text o.side ∷ slice_index_or names o.zone [] ∷ []

-- the records of zones: the zones before what they lie over, each list in its own order
abbrev pub rows_of : Station → Zones → List (List (List ℕ))
rows_of s z = head_row ∷ (map zone_row z.names ++ map (over_row s z.names) z.over)

-- the records of a text are those of the zones, and state them
pub record ReadsAsZones (s : Station) (z : Zones) (text : List ℕ) : Type 0 where
  pub rows : records_of text ≡ rows_of s z
  pub value : reading (zones_format s) (records_of text) ≡ Ok z
