-- Searches place by place: from what is found at one place to what is found at all.
use Rattle.std.proofs.Common.{◌≡◌, ⊎_elim, ℕ, ◌+◌, ◌<◌, ◌≤◌, Option, Some, None, arith}
use Rattle.std.proofs.lemmas.Bool.{cases_lt}
use Rattle.shunt_checker.specs.defs.Firsts.{Finds, HoldsNotBelow}

module _ {X : Type 0} (Holds : X → Type 0) (Before : X → X → Type 0) (place : X → ℕ) (t : ℕ) (Here : X → Type 0)
    (here : (x : X) → Holds x → place x ≡ t → Here x) where
  -- nothing at this place either
  pub passed : HoldsNotBelow Holds place t → Finds Here Before None → HoldsNotBelow Holds place (t + 1)
  passed below none x h lt = ⊎_elim (λ less. below x h less) (λ past. none x (here x h (omega (arith, lt, past)))) (cases_lt (place x) t)

  -- what is the first at this place is the first of all
  pub found : (back : (x : X) → Here x → Holds x) (goes : (x y : X) → Holds x → Here y → Before x y → place x ≤ t) (x : X)
      → HoldsNotBelow Holds place t → Finds Here Before (Some x) → Finds Holds Before (Some x)
  found back goes x below f = record {
    is = back x f.is;
    first = λ y h before. ⊎_elim
        (λ less. below y h less)
        (λ past. let le = goes y x h f.is before in f.first y (here y h (omega (arith, le, past))) before)
        (cases_lt (place y) t);
  }

-- nothing at any place
pub all_passed : {X : Type 0} (Holds : X → Type 0) (Before : X → X → Type 0) (place : X → ℕ) (n : ℕ) → ((x : X) → Holds x → place x < n) → HoldsNotBelow Holds place n
    → Finds Holds Before None
all_passed Holds Before place n within below x h = below x h (within x h)

-- nothing below 0
pub none_passed : {X : Type 0} (Holds : X → Type 0) (place : X → ℕ) → HoldsNotBelow Holds place 0
none_passed Holds place x h lt = omega (arith, lt)

-- nothing below the least place
pub least_passed : {X : Type 0} (Holds : X → Type 0) (place : X → ℕ) (n : ℕ) → ((x : X) → Holds x → n ≤ place x) → HoldsNotBelow Holds place n
least_passed Holds place n from x h lt = let le = from x h in omega (arith, lt, le)

-- the same of what is said in other words
pub same_finds : {X : Type 0} (Holds Other : X → Type 0) (Before : X → X → Type 0) → ((x : X) → Holds x → Other x) → ((x : X) → Other x → Holds x) → (r : Option X)
    → Finds Holds Before r → Finds Other Before r
same_finds Holds Other Before to back None f = λ x h. f x (back x h)
same_finds Holds Other Before to back (Some x) f = record { is = to x f.is; first = λ y h before. f.first y (back y h) before }
