-- The records that are written of edits.
use Rattle.std.specs.Prelude.{◌≡◌, ℕ, List, [], ◌∷◌, map, Ok, codes}
use Rattle.std.specs.Fmt.{decimal}
use Rattle.shunt_rows.specs.defs.Records.{records_of}
use Rattle.shunt_rows.specs.defs.Written.{side_text}
use Rattle.shunt_rows.specs.defs.Formats.{reading}
use Rattle.shunt_instance.specs.declared.records.Station.{Station}
use Rattle.shunt_instance.specs.defs.Instance.{Night}
use Rattle.shunt_blocks.specs.declared.records.Park.{Park}
use Rattle.shunt_plan.specs.declared.edits.Edit.{Edit}
use Rattle.shunt_plan.specs.declared.edits.Edit.TheVariants as edits
use Rattle.shunt_plan.specs.declared.edits.Turn.{Turn}
use Rattle.shunt_plan.specs.declared.edits.Turn.TheVariants as turns
use Rattle.shunt_plan.specs.defs.PlanRows.{arr_name, dep_name, track_name, option_fields}
use Rattle.shunt_plan.specs.defs.Edits.{edits_format}

-- `TRACK,IN,OUT`
abbrev pub park_fields : Station → Park → List (List ℕ)
park_fields s park = track_name s park.track ∷ side_text park.side_in ∷ side_text park.side_out ∷ []

-- a word, and a number behind it, or two
abbrev pub number_row : List ℕ → ℕ → List (List ℕ)
number_row word x = word ∷ decimal x ∷ []

abbrev pub numbers_row : List ℕ → ℕ → ℕ → List (List ℕ)
numbers_row word x y = word ∷ decimal x ∷ decimal y ∷ []

-- the record of an edit
abbrev pub edit_row : Night → Edit → List (List ℕ)
edit_row night (edits.Add arr p n dep q park) = codes "add" ∷ arr_name night arr ∷ decimal p ∷ decimal n ∷ dep_name night dep ∷ decimal q ∷ option_fields night.station park
edit_row night (edits.Drop id) = number_row (codes "drop") id
edit_row night (edits.Park id park) = codes "park" ∷ decimal id ∷ park_fields night.station park
edit_row night (edits.Unpark id) = number_row (codes "unpark") id
edit_row night (edits.Cut id k) = numbers_row (codes "cut") id k
edit_row night (edits.Join first second) = numbers_row (codes "join") first second

-- the record of a turn
abbrev pub turn_row : Night → Turn → List (List ℕ)
turn_row night (turns.Edit e) = edit_row night e
turn_row night turns.Undo = codes "undo" ∷ []
turn_row night turns.Redo = codes "redo" ∷ []

-- `edits,1`
abbrev pub edits_head : List (List ℕ)
edits_head = number_row (codes "edits") 1

-- the first record, and the turns in their order
abbrev pub rows_of_edits : Night → List Turn → List (List (List ℕ))
rows_of_edits night all = edits_head ∷ map (turn_row night) all

-- the records of a text are those of the turns, and state them
pub record ReadsAsEdits (night : Night) (all : List Turn) (text : List ℕ) : Type 0 where
  pub rows : records_of text ≡ rows_of_edits night all
  pub value : reading (edits_format night) (records_of text) ≡ Ok all
