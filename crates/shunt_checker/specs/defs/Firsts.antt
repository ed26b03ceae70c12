-- What a search finds: the first one of which something holds, or that there is none.
use Rattle.std.specs.Prelude.{ℕ, ◌<◌, Option, Some, None}

-- this holds of it, and of none that comes before
pub record IsFirstOf {X : Type 0} (Holds : X → Type 0) (Before : X → X → Type 0) (x : X) : Type 0 where
  pub is : Holds x
  pub first : (y : X) → Holds y → Before y x → ⊥

-- the first one, or none
abbrev pub Finds : {X : Type 0} → (X → Type 0) → (X → X → Type 0) → Option X → Type 0
Finds {X} Holds Before None = (x : X) → Holds x → ⊥
Finds {X} Holds Before (Some x) = IsFirstOf Holds Before x

-- it holds of none at the places below a number
abbrev pub HoldsNotBelow : {X : Type 0} → (X → Type 0) → (X → ℕ) → ℕ → Type 0
HoldsNotBelow {X} Holds place n = (x : X) → Holds x → place x < n → ⊥
