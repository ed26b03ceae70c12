-- The words for entries and leaves.
use Rattle.std.specs.Prelude.{ℕ, Bool, List, ◌++◌, codes, decimal}
use Rattle.shunt_rows.specs.defs.Written.{move_word}

-- `MOVE ID`: whether it enters or leaves, and its block
abbrev pub move_words : Bool → ℕ → List ℕ
move_words enters id = move_word enters ++ codes " " ++ decimal id
