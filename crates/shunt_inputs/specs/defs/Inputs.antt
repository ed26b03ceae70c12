-- What input files state.
use Rattle.std.specs.Prelude.{◌≡◌, ℕ, List, Option, None, Some, Result, Ok, Err, nat_le, length, IfSome, if◌then◌else◌}
use Rattle.shunt_store.specs.defs.Files.{Files, content}
use Rattle.shunt_instance.specs.defs.Instance.{Night, night_of}
use Rattle.shunt_plan.specs.declared.records.Plan.{Plan}
use Rattle.shunt_drivers.specs.declared.records.Duty.{Duty}
use Rattle.shunt_zones.specs.defs.Moves.{moves_of}
use Rattle.shunt_rows.specs.declared.fault.RowFault.{RowFault}
use Rattle.shunt_rows.specs.defs.Formats.{Format, reading}
use Rattle.shunt_rows.specs.defs.Records.{records_of}
use Rattle.shunt_instance.specs.declared.records.Station.{Station}
use Rattle.shunt_instance.specs.declared.records.Timetable.{Timetable}
use Rattle.shunt_plan.specs.declared.edits.Turn.{Turn}
use Rattle.shunt_plan.specs.defs.Edits.{edits_format}
use Rattle.shunt_blocks.specs.declared.records.Block.{Block}
use Rattle.shunt_plan.specs.defs.PinsFormat.{pins_format}
use Rattle.shunt_plan.specs.defs.PlanFormat.{plan_format}
use Rattle.shunt_proof.specs.declared.records.Certificate.{Certificate}
use Rattle.shunt_proof.specs.defs.CertificateFormat.{certificate_format}
use Rattle.shunt_rows.specs.declared.words.FileWord.{FileWord}
use Rattle.shunt_rows.specs.declared.words.FileWord.TheVariants as word
use Rattle.shunt_rows.specs.defs.InputTexts.{input_of}
use Rattle.shunt_station.specs.defs.StatedStations.{station_format}
use Rattle.shunt_timetable.specs.defs.TimetableFormat.{timetable_format}
use Rattle.shunt_zones.specs.declared.records.Zones.{Zones as ThroatZones}
use Rattle.shunt_zones.specs.defs.ZonesFormat.{zones_format}
use Rattle.shunt_drivers.specs.declared.records.Crew.{Crew}
use Rattle.shunt_drivers.specs.defs.CrewFormat.{crew_format}
use Rattle.shunt_drivers.specs.defs.RosterFormat.{roster_format}
use Rattle.shunt_inputs.specs.declared.nights.WholeNight.{WholeNight}
use Rattle.shunt_inputs.specs.declared.pins.Pinned.{Pinned}
use Rattle.shunt_sheet.specs.declared.records.Order.{Order}
use Rattle.shunt_sheet.specs.defs.SheetFormat.{sheet_format}

-- how many bytes may stand in an input file
abbrev pub most_bytes_of : FileWord → ℕ
most_bytes_of word.Certificate = 67108864
most_bytes_of file = 4194304

-- what the records of an input file state, or the line for it with their first fault
abbrev pub value_or : {X : Type 0} → FileWord → Result X RowFault → Result X (List ℕ)
value_or file (Ok x) = Ok x
value_or file (Err fault) = Err (input_of file (Some fault))

-- what an input file states by such a reading of its records, or the line for it where it is too long or has a first fault
abbrev pub stated_by : {X : Type 0} → FileWord → (List (List (List ℕ)) → Result X RowFault) → List ℕ → Result X (List ℕ)
stated_by file states bytes = if nat_le (length bytes) (most_bytes_of file) then value_or file (states (records_of bytes)) else Err (input_of file None)

-- the same in a format
abbrev pub stated : {S X : Type 0} → FileWord → Format S X → List ℕ → Result X (List ℕ)
stated file format bytes = stated_by file (reading format) bytes

abbrev pub stated_station : List ℕ → Result Station (List ℕ)
stated_station bytes = stated word.Station station_format bytes

abbrev pub stated_timetable : Station → List ℕ → Result Timetable (List ℕ)
stated_timetable station bytes = stated word.Timetable (timetable_format station) bytes

-- a value of the first, and then what is stated over it
abbrev pub then_stated : {X Y : Type 0} → Result X (List ℕ) → (X → Result Y (List ℕ)) → Result Y (List ℕ)
then_stated (Ok x) rest = rest x
then_stated (Err text) rest = Err text

-- the night that a station file and a timetable file state, or the line for the first of them that isn't accepted
abbrev pub stated_night : List ℕ → List ℕ → Result Night (List ℕ)
stated_night s t = then_stated (stated_station s) (λ station. then_stated (stated_timetable station t) (λ timetable. Ok (night_of station timetable)))

-- the night of a station and a timetable, with the timetable
abbrev pub whole_of : Station → Timetable → WholeNight
whole_of station timetable = record { timetable = timetable; instance = night_of station timetable }

-- the same with its timetable, in the order of its file
abbrev pub stated_whole : List ℕ → List ℕ → Result WholeNight (List ℕ)
stated_whole s t = then_stated (stated_station s) (λ station. then_stated (stated_timetable station t) (λ timetable.
    Ok (whole_of station timetable)))

-- a plan file over a night
abbrev pub stated_plan : Night → List ℕ → Result Plan (List ℕ)
stated_plan night bytes = stated word.Plan (plan_format night) bytes

-- the file of another plan over a night
abbrev pub stated_other : Night → List ℕ → Result Plan (List ℕ)
stated_other night bytes = stated word.Other (plan_format night) bytes

-- the night that a station file and a timetable file state, and the plan that a plan file states in it, or the line for the first
-- of them that isn't accepted
abbrev pub stated_plans : List ℕ → List ℕ → List ℕ → Result (Night × Plan) (List ℕ)
stated_plans s t p = then_stated (stated_night s t) (λ night. then_stated (stated_plan night p) (λ plan. Ok (night, plan)))

-- the same of what the files of these names hold
abbrev pub plans_in : List ℕ → List ℕ → List ℕ → Files → Result (Night × Plan) (List ℕ)
plans_in s t p files = stated_plans (content files s) (content files t) (content files p)

-- a pins file over a night
abbrev pub stated_pins : Night → List ℕ → Result (List Block) (List ℕ)
stated_pins night bytes = stated word.Pins (pins_format night) bytes

-- the night that a station file and a timetable file state, and the pins that a pins file states in it, or the line for the first
-- of them that isn't accepted
abbrev pub stated_pinned : List ℕ → List ℕ → List ℕ → Result Pinned (List ℕ)
stated_pinned s t p = then_stated (stated_night s t) (λ night. then_stated (stated_pins night p) (λ pins. Ok (record { instance = night; pins = pins })))

-- the same of what the files of these names hold
abbrev pub pinned_in : List ℕ → List ℕ → List ℕ → Files → Result Pinned (List ℕ)
pinned_in s t p files = stated_pinned (content files s) (content files t) (content files p)

-- a certificate file over a night
abbrev pub stated_certificate : Night → List ℕ → Result Certificate (List ℕ)
stated_certificate night bytes = stated word.Certificate (certificate_format night) bytes

-- a zones file over a night
abbrev pub stated_zones : Night → List ℕ → Result ThroatZones (List ℕ)
stated_zones night bytes = stated word.Zones (zones_format night.station) bytes

-- a crew file over a night
abbrev pub stated_crew : Night → List ℕ → Result Crew (List ℕ)
stated_crew night bytes = stated word.Crew (crew_format night.station) bytes

-- a roster file over the moves of a plan
abbrev pub stated_roster : Night → Plan → List ℕ → Result (List Duty) (List ℕ)
stated_roster night plan bytes = stated word.Roster (roster_format (moves_of night plan.blocks)) bytes

-- a sheet file over a station
abbrev pub stated_sheet : Station → List ℕ → Result (List Order) (List ℕ)
stated_sheet station bytes = stated word.Sheet (sheet_format station) bytes

-- an edits file over a night
abbrev pub stated_edits : Night → List ℕ → Result (List Turn) (List ℕ)
stated_edits night bytes = stated word.Edits (edits_format night) bytes

-- what all files hold is what is told, where it is told
abbrev pub Agrees : Option Files → Files → Type 0
Agrees told files = IfSome told (λ known. known ≡ files)

-- the fact holds of what a name holds, where that is told, or else of some bytes
abbrev pub Holding : Option Files → List ℕ → (List ℕ → Type 0) → Type 0
Holding told name P = (bytes : List ℕ) × IfSome told (λ files. bytes ≡ content files name) × P bytes
