-- What a call may answer where it fails.
use Rattle.std.specs.Prelude.{◌≡◌, ◌⊎◌, ℕ, ◌+◌, ◌-◌, ◌^◌, ◌<◌, ◌≤◌, min, Result, IsErrOf}

-- one more, but never past the last value that a count can have
abbrev pub one_more : ℕ → ℕ
one_more count = min (count + 1) (2 ^ 64 - 1)

-- a count and that many more, but never past the last value that a count can have
abbrev pub counted_on : ℕ → ℕ → ℕ
counted_on count more = min (count + more) (2 ^ 64 - 1)

-- a count rose by that many at least, or stands at the last value that it can have
abbrev pub RoseBy : ℕ → ℕ → ℕ → Type 0
RoseBy more before now = (before + more ≤ now) ⊎ (now ≡ 2 ^ 64 - 1)

-- a count is greater than it was, or stands at the last value that it can have
abbrev pub Rose : ℕ → ℕ → Type 0
Rose before now = (before < now) ⊎ (now ≡ 2 ^ 64 - 1)

-- a count is one more than it was, or stands at the last value that it can have
abbrev pub IsOneMore : ℕ → ℕ → Type 0
IsOneMore before now = (now ≡ before + 1) ⊎ ((now ≡ before) × (now ≡ 2 ^ 64 - 1))

-- one call counts this error, and nothing else
pub record Counts {T E : Type 0} (fault : E) (before now : ℕ) (result : Result T E) : Type 0 where
  pub failed : IsErrOf result fault → IsOneMore before now
  pub other : (IsErrOf result fault → ⊥) → now ≡ before

-- the count doesn't fall, and this error is told only if it rose
pub record HasCause {T E : Type 0} (fault : E) (before now : ℕ) (result : Result T E) : Type 0 where
  pub later : before ≤ now
  pub failed : IsErrOf result fault → Rose before now
