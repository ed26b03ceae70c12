-- Which contents of files a step can have met.
use Rattle.std.specs.Prelude.{◌≡◌, ◌⊎◌, ℕ, List, ◌++◌, map, take, Option, Some, None}
use Rattle.std.specs.List.{AllByRecursion}
use Rattle.shunt_store.specs.defs.Files.{Files, BothTold, content}
use Rattle.shunt_store.specs.defs.Notes.{Entries}

-- these files hold what was heard between two moments, name by name
abbrev pub HeardIn : Option Entries → Option Entries → Files → Type 0
HeardIn None new files = ⊥
HeardIn (Some old) None files = ⊥
HeardIn (Some old) (Some new) files = (es : Entries) × (new ≡ old ++ es) × AllByRecursion (λ (e : List ℕ × List ℕ). content files e.0 ≡ e.1) es

-- the files as they can be known of a step: as they are told, or any that hold what was heard in it
abbrev pub IsView : Option Files → Option Entries → Option Entries → Option Files → Type 0
IsView told before after view = (view ≡ told) ⊎ ((files : Files) × (view ≡ Some files) × HeardIn before after files)

abbrev pub names_of : Entries → List (List ℕ)
names_of es = map (λ (e : List ℕ × List ℕ). e.0) es

-- these names were heard, in this order, and no others
abbrev pub Hears : List (List ℕ) → Option Entries → Option Entries → Type 0
Hears names before after = BothTold before after (λ a b. (es : Entries) × (b ≡ a ++ es) × (names_of es ≡ names))

-- the first of these names were heard, or all or none of them, in this order, and no others
abbrev pub HearsFirst : List (List ℕ) → Option Entries → Option Entries → Type 0
HearsFirst names before after = BothTold before after (λ a b. (es : Entries) × (b ≡ a ++ es) × ((k : ℕ) × (names_of es ≡ take k names)))
