-- The printed texts of sharings and rosters.
use Rattle.std.specs.Prelude.{ℕ, ◌+◌, ◌==◌, List, [], ◌∷◌, ◌++◌, length, codes, decimal, Option, Some, None, if◌then◌else◌}
use Rattle.std.specs.List.{list_any}
use Rattle.shunt_base.specs.defs.Spelling.{minute_text}
use Rattle.shunt_drivers.specs.declared.records.Duty.{Duty}
use Rattle.shunt_drivers.specs.declared.records.RosterFault.{RosterFault}
use Rattle.shunt_drivers.specs.declared.records.RosterFault.TheVariants as faults
use Rattle.shunt_report.specs.defs.MoveTexts.{move_words}

-- ` busy HH:MM`, where moves run
abbrev pub busy_words : Option ℕ → List ℕ
busy_words None = []
busy_words (Some minute) = codes " busy " ++ minute_text minute

-- `drivers N busy HH:MM moves M`, or `drivers 0 moves 0`
unfoldable pub sharing_of : List Duty → ℕ → Option ℕ → List ℕ
sharing_of duties drivers busy = codes "drivers " ++ decimal drivers ++ busy_words busy ++ codes " moves " ++ decimal (length duties) ++ codes "\n"

-- 1 where none of these later duties is of a driver, else 0
abbrev pub newly : List Duty → ℕ → ℕ
newly later driver = if list_any (λ d. d.driver == driver) later then 0 else 1

-- how many different drivers have these duties: of each the last duty is counted
abbrev pub different_drivers : List Duty → ℕ
different_drivers [] = 0
different_drivers (d ∷ later) = newly later d.driver + different_drivers later

-- `absent MOVE ID` or `overlap DRIVER MOVE ID MOVE ID`
abbrev pub fault_words : RosterFault → List ℕ
fault_words (faults.Absent enters id) = codes "absent " ++ move_words enters id
fault_words (faults.Overlap a b) = codes "overlap " ++ decimal a.driver ++ codes " " ++ move_words a.enters a.id ++ codes " " ++ move_words b.enters b.id

-- `roster` and the fault, or `roster ok drivers N`
unfoldable pub roster_of : List Duty → Option RosterFault → List ℕ
roster_of duties None = codes "roster ok drivers " ++ decimal (different_drivers duties) ++ codes "\n"
roster_of duties (Some f) = codes "roster " ++ fault_words f ++ codes "\n"
