-- The printed text of what passes the zones of a throat.
use Rattle.std.specs.Prelude.{ℕ, ◌<◌, List, [], ◌∷◌, ◌++◌, length, slice_index_or, codes, decimal, Option, Some, None}
use Rattle.std.specs.List.{flat_map}
use Rattle.shunt_base.specs.defs.Spelling.{minute_text}
use Rattle.shunt_zones.specs.declared.records.Zones.{Zones}
use Rattle.shunt_zones.specs.declared.records.Meet.{Meet}
use Rattle.shunt_zones.specs.declared.records.ZoneLoad.{ZoneLoad}
use Rattle.shunt_report.specs.defs.MoveTexts.{move_words}

-- its zone is one of these, and its minute one of two days
pub record IsMeetOf (zones : Zones) (m : Meet) : Type 0 where
  pub zone : m.zone < length zones.names
  pub minute : m.first.key.minute < 2880

-- `meet HH:MM MOVE ID MOVE ID ZONE`
abbrev pub meet_line : Zones → Meet → List ℕ
meet_line zones m = codes "meet " ++ minute_text m.first.key.minute ++ codes " " ++ move_words m.first.key.enters m.first.key.id ++ codes " "
    ++ move_words m.second.key.enters m.second.key.id ++ codes " " ++ slice_index_or zones.names m.zone [] ++ codes "\n"

-- ` busiest HH:MM K`, where moves pass
abbrev pub busiest_words : Option ℕ → ℕ → List ℕ
busiest_words None most = []
busiest_words (Some minute) most = codes " busiest " ++ minute_text minute ++ codes " " ++ decimal most

-- `zone NAME moves M busiest HH:MM K`, or `zone NAME moves 0`
abbrev pub zone_line : List ℕ → ZoneLoad → List ℕ
zone_line name load = codes "zone " ++ name ++ codes " moves " ++ decimal load.moves ++ busiest_words load.busiest load.most ++ codes "\n"

-- the line of each zone, by its name and its load
abbrev pub zone_lines : List (List ℕ) → List ZoneLoad → List ℕ
zone_lines [] loads = []
zone_lines (name ∷ names) [] = []
zone_lines (name ∷ names) (load ∷ loads) = zone_line name load ++ zone_lines names loads

-- a line for each meet, one for each zone, and `meets N`
unfoldable pub zones_of : Zones → List Meet → List ZoneLoad → List ℕ
zones_of zones meets loads = flat_map (meet_line zones) meets ++ zone_lines zones.names loads ++ codes "meets " ++ decimal (length meets) ++ codes "\n"
