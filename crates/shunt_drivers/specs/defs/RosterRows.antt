-- The records of a roster as they are written.
use Rattle.std.specs.Prelude.{◌≡◌, ℕ, List, [], ◌∷◌, map, Ok, codes}
use Rattle.std.specs.Fmt.{decimal}
use Rattle.shunt_rows.specs.defs.Records.{records_of}
use Rattle.shunt_rows.specs.defs.Formats.{reading}
use Rattle.shunt_rows.specs.defs.Written.{move_word}
use Rattle.shunt_tracks.specs.declared.run.Event.{Event}
use Rattle.shunt_drivers.specs.declared.records.Duty.{Duty}
use Rattle.shunt_drivers.specs.defs.RosterFormat.{roster_format}

-- the version that is written
abbrev pub written_version : ℕ
written_version = 1

-- `roster,1`
abbrev pub head_row : List (List ℕ)
head_row = codes "roster" ∷ decimal written_version ∷ []

-- `duty,DRIVER,MOVE,ID`
abbrev pub duty_row : Duty → List (List ℕ)
duty_row d = codes "duty" ∷ decimal d.driver ∷ move_word d.enters ∷ decimal d.id ∷ []

-- the records of duties, in their order
abbrev pub rows_of : List Duty → List (List (List ℕ))
rows_of duties = head_row ∷ map duty_row duties

-- the records of a text are those of the duties, and state them over these moves
pub record ReadsAsRoster (moves : List Event) (duties : List Duty) (text : List ℕ) : Type 0 where
  pub rows : records_of text ≡ rows_of duties
  pub value : reading (roster_format moves) (records_of text) ≡ Ok duties
