-- Members of lists.
use Rattle.std.specs.Prelude.{◌≡◌, ◌≢◌, ◌⊎◌, ℕ, ◌<◌, List, [], ◌∷◌, AllPairs}
use Rattle.std.specs.List.{AllByRecursion}

-- x is one of these
abbrev pub In : {X : Type 0} → X → List X → Type 0
In x [] = ⊥
In x (y ∷ ys) = (x ≡ y) ⊎ In x ys

-- no two elements of a list are equal
abbrev pub AreDistinct : {X : Type 0} → List X → Type 0
AreDistinct = AllPairs (λ x y. x ≢ y)

-- each element of a list has a lower number than all that follow
abbrev pub Ascends : {X : Type 0} → (X → ℕ) → List X → Type 0
Ascends at [] = Unit {0}
Ascends at (x ∷ xs) = AllByRecursion (λ y. at x < at y) xs × Ascends at xs
