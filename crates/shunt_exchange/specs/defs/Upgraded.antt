-- What the files of `upgrade` state, and its answer.
use Rattle.std.specs.Prelude.{◌≡◌, ℕ, List, [], ◌∷◌, Result, Ok}
use Rattle.shunt_store.specs.defs.Files.{Files, content}
use Rattle.shunt_rows.specs.defs.Records.{text_of_rows}
use Rattle.shunt_instance.specs.declared.records.Station.{Station}
use Rattle.shunt_instance.specs.declared.records.Timetable.{Timetable}
use Rattle.shunt_station.specs.defs.WrittenRows as station_rows
use Rattle.shunt_timetable.specs.defs.WrittenRows as timetable_rows
use Rattle.shunt_inputs.specs.declared.answers.Outcome.TheVariants as outcome
use Rattle.shunt_inputs.specs.defs.Inputs.{stated_station, stated_timetable, then_stated}
use Rattle.shunt_inputs.specs.defs.Replies.{Reply}

-- a station, and a timetable over it
pub record Upgradable : Type 0 where
  pub station : Station
  pub timetable : Timetable

-- those that a station file and a timetable file state, or the line for the first of them that isn't accepted
abbrev pub stated_upgrade : List ℕ → List ℕ → Result Upgradable (List ℕ)
stated_upgrade s t = then_stated (stated_station s) (λ station. then_stated (stated_timetable station t) (λ timetable. Ok (record { station = station; timetable = timetable })))

-- the same of what the files of these names hold
abbrev pub upgrade_in : List ℕ → List ℕ → Files → Result Upgradable (List ℕ)
upgrade_in s t files = stated_upgrade (content files s) (content files t)

-- the answer of `upgrade`: both are written under these names, in version 2, or the timetable in version 3 where units of it have come already,
-- and nothing is printed
abbrev pub IsUpgraded : List ℕ → List ℕ → Upgradable → Reply → Type 0
IsUpgraded n m x r = r ≡ record {
  outcome = outcome.Done;
  writes = (n, text_of_rows (station_rows.rows_of x.station)) ∷ (m, text_of_rows (timetable_rows.rows_of x.station x.timetable)) ∷ [];
  text = [];
}
