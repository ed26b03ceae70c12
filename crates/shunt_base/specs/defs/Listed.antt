-- One or two as a list.
use Rattle.std.specs.Prelude.{List, [], ◌∷◌, Option, None, Some}

-- the first, and the second where there is one
abbrev pub listed : {X : Type 0} → X → Option X → List X
listed x None = x ∷ []
listed x (Some y) = x ∷ y ∷ []
