-- The format of a crew over a station.
use Rattle.std.specs.Prelude.{ℕ, ◌<◌, ◌≤◌, ◌==◌, Bool, false, not, ◌&&◌, IsTrue, All, List, [], ◌∷◌, ◌++◌, length, map, Option, Some, None, if◌then◌else◌, codes}
use Rattle.std.specs.List.{list_any}
use Rattle.std.specs.Option.{is_some, is_none, unwrap_or}
use Rattle.shunt_lists.specs.defs.Members.{AreDistinct}
use Rattle.shunt_base.specs.defs.Sides.{same_side}
use Rattle.shunt_rows.specs.declared.fault.RowKind.TheVariants as kinds
use Rattle.shunt_rows.specs.defs.Checks.{Judged, must, says, ◌>>=◌}
use Rattle.shunt_rows.specs.defs.Fields.{is_word, no_word, fields_in, number_in}
use Rattle.shunt_rows.specs.defs.Formats.{Format}
use Rattle.shunt_instance.specs.declared.records.Station.{Station}
use Rattle.shunt_plan.specs.defs.BlockRecords.{first_in}
use Rattle.shunt_zones.specs.declared.ways.Way.{Way}
use Rattle.shunt_zones.specs.defs.ZonesFormat.{has_route, way_in}
use Rattle.shunt_drivers.specs.declared.records.Takes.{Takes}
use Rattle.shunt_drivers.specs.declared.records.Crew.{Crew}

-- what the records so far state: the minutes of ways, and those of every other move where their record was read
pub record CrewDraft : Type 0 where
  pub takes : List Takes
  pub other : Option ℕ

-- what is known of a crew before its records
abbrev pub no_crew : CrewDraft
no_crew = record { takes = []; other = None }

-- the way that minutes are stated of
abbrev pub way_of : Takes → Way
way_of t = record { platform = t.platform; track = t.track; side = t.side }

-- minutes of a way
abbrev pub takes_over : Way → ℕ → Takes
takes_over w minutes = record { platform = w.platform; track = w.track; side = w.side; minutes = minutes }

-- whether minutes are those of a way
abbrev pub is_over : Way → Takes → Bool
is_over w t = t.platform.0 == w.platform.0 && t.track.0 == w.track.0 && same_side t.side w.side

-- whether minutes of a way are among these
unfoldable pub stands : List Takes → Way → Bool
stands takes w = list_any (is_over w) takes

-- `crew,1`
unfoldable pub first_of : List (List ℕ) → Judged CrewDraft
first_of row = first_in (codes "crew") no_crew row

-- MINUTES at field 5 over a way, none of which stand over it already
unfoldable pub takes_in : List Takes → Way → List (List ℕ) → Judged Takes
takes_in takes way row = do
  _ ← must (not (stands takes way)) 4 kinds.Repeat
  minutes ← number_in row 5 1 120
  says (takes_over way minutes)

-- `takes,PLATFORM,TRACK,SIDE,MINUTES`; the three once
unfoldable pub takes_of : Station → CrewDraft → List (List ℕ) → Judged CrewDraft
takes_of s d row = do
  _ ← fields_in row 5 5
  way ← way_in s row
  t ← takes_in d.takes way row
  says record d { takes = d.takes ++ t ∷ [] }

-- `else,MINUTES`, once
unfoldable pub else_of : CrewDraft → List (List ℕ) → Judged CrewDraft
else_of d row = do
  _ ← fields_in row 2 2
  _ ← must (is_none d.other) 1 kinds.Repeat
  minutes ← number_in row 2 1 120
  says record d { other = Some minutes }

-- a later record, by its word
unfoldable pub later_of : Station → CrewDraft → List (List ℕ) → Judged CrewDraft
later_of s d row =
    if is_word row (codes "takes") then takes_of s d row
    else if is_word row (codes "else") then else_of d row
    else no_word d

-- the crew that the records state
abbrev pub crew_of : CrewDraft → Crew
crew_of d = record { takes = d.takes; other = unwrap_or d.other 0 }

-- the crew file: no record is the last one, and `else` has to be there
abbrev pub crew_format : Station → Format CrewDraft Crew
crew_format s = record { first = first_of; later = later_of s; has_ended = λ d. false; is_whole = λ d. is_some d.other; value = crew_of }

-- a number of minutes from 1 to 120
abbrev pub AreMinutes : ℕ → Type 0
AreMinutes minutes = (1 ≤ minutes) × (minutes ≤ 120)

-- minutes of a way of the station
pub record IsTakes (s : Station) (t : Takes) : Type 0 where
  pub platform : t.platform.0 < length s.platforms
  pub track : t.track.0 < length s.tracks
  pub route : IsTrue (has_route s (way_of t))
  pub minutes : AreMinutes t.minutes

-- a crew that a file can state over a station
pub record IsCrew (s : Station) (c : Crew) : Type 0 where
  pub takes : All (IsTakes s) c.takes
  pub ways_differ : AreDistinct (map way_of c.takes)
  pub other : AreMinutes c.other
