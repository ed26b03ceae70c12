-- How many bytes a call moves.
use Rattle.std.specs.Prelude.{ℕ, ◌≤◌, min, Option, Some, None}

-- that many bytes, but no more than the bound where there is one
abbrev pub bounded : Option ℕ → ℕ → ℕ
bounded None n = n
bounded (Some most) n = min n most

-- a bound lets at least one byte through
abbrev pub LetsThrough : Option ℕ → Type 0
LetsThrough None = Unit {0}
LetsThrough (Some most) = 1 ≤ most
