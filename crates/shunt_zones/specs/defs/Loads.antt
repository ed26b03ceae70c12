-- How many moves pass a zone, and when most do.
use Rattle.std.specs.Prelude.{ℕ, ◌==◌, max, List, [], ◌∷◌, map, filter, find, length, count_by, Option}
use Rattle.std.specs.List.{range_with_len}
use Rattle.shunt_instance.specs.defs.Instance.{Night}
use Rattle.shunt_plan.specs.declared.records.Plan.{Plan}
use Rattle.shunt_zones.specs.declared.records.Zones.{Zones}
use Rattle.shunt_zones.specs.declared.records.ZoneLoad.{ZoneLoad}
use Rattle.shunt_zones.specs.declared.passages.Passing.{Passing}
use Rattle.shunt_zones.specs.defs.Passed.{has_zone, passings_of}

-- the minutes of the moves that pass a zone
abbrev pub minutes_over : ℕ → List Passing → List ℕ
minutes_over zone moves = map (λ m. m.event.key.minute) (filter (λ m. has_zone m.zones zone) moves)

-- how many of these minutes are this one
abbrev pub times : List ℕ → ℕ → ℕ
times minutes minute = count_by (λ m. m == minute) minutes

-- the greatest of these numbers, or 0
abbrev pub greatest : List ℕ → ℕ
greatest [] = 0
greatest (x ∷ xs) = max x (greatest xs)

-- how often one of these minutes comes at most
abbrev pub most_of : List ℕ → ℕ
most_of minutes = greatest (map (times minutes) minutes)

-- the first of these minutes that comes as often as any
abbrev pub busiest_of : List ℕ → Option ℕ
busiest_of minutes = find (λ m. times minutes m == most_of minutes) minutes

-- the load of a zone which is passed in these minutes
abbrev pub load_of : List ℕ → ZoneLoad
load_of minutes = record { moves = length minutes; busiest = busiest_of minutes; most = most_of minutes }

-- the load of each zone by the plan's moves
unfoldable pub loads_in : Night → Zones → Plan → List ZoneLoad
loads_in night zones plan = map (λ z. load_of (minutes_over z (passings_of night zones plan.blocks))) (range_with_len 0 (length zones.names))
