-- Names of files.
use Rattle.std.specs.Prelude.{◌≢◌, ℕ, List, [], ◌∷◌}
use Rattle.std.specs.List.{AllByRecursion}

-- no name is empty, and no two are the same
abbrev pub AreNames : List (List ℕ) → Type 0
AreNames [] = Unit {0}
AreNames (n ∷ ns) = (n ≢ []) × AllByRecursion (λ m. n ≢ m) ns × AreNames ns
