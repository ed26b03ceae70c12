-- Setting a run of entries.
use Rattle.std.specs.Prelude.{ℕ, zero, suc, ◌+◌, List, slice_set}

-- the list with the n entries from one on set to a value
abbrev pub filled : {X : Type 0} → List X → ℕ → ℕ → X → List X
filled xs from zero value = xs
filled xs from (suc n) value = slice_set (filled xs from n value) (from + n) value
