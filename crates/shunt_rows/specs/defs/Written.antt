-- What was written, and how fields are spelled.
use Rattle.std.specs.Prelude.{ℕ, Bool, true, false, List, codes}
use Rattle.shunt_base.specs.declared.ids.Side.{Side}
use Rattle.shunt_base.specs.declared.ids.Side.TheVariants.{A, B}

-- the text of the rows that were ended, and the fields of the open row
pub record Written : Type 0 where
  pub text : List ℕ
  pub row : List (List ℕ)

-- a side's letter
abbrev pub side_text : Side → List ℕ
side_text A = codes "A"
side_text B = codes "B"

-- the word of an entry or a leave
abbrev pub move_word : Bool → List ℕ
move_word true = codes "enter"
move_word false = codes "leave"
