-- What stands behind the name of a file that is written beside another.
use Rattle.std.specs.Prelude.{◌≡◌, ℕ, zero, suc, List, [], ◌++◌, codes}

-- `.part`, so often
abbrev pub part_endings : ℕ → List ℕ
part_endings zero = []
part_endings (suc n) = codes ".part" ++ part_endings n

-- a text ends so
abbrev pub EndsWith : List ℕ → List ℕ → Type 0
EndsWith text end = (front : List ℕ) × (text ≡ front ++ end)
