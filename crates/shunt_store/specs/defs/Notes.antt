-- What was moved in a run: names with their bytes, in the order in which they were moved.
use Rattle.std.specs.Prelude.{◌≡◌, ◌⊎◌, ℕ, List, [], ◌∷◌, ◌++◌}
use Rattle.std.specs.Coded.{Coded, coded×, coded_ℕ, coded_list}
use Rattle.shunt_store.specs.defs.Files.{Stage, Closed, Reading, Writing}

-- names with their bytes
abbrev pub Entries : Type 0
Entries = List (List ℕ × List ℕ)

-- how they are kept in a model
abbrev pub coded_entries : Coded Entries
coded_entries = coded_list (coded× (coded_list coded_ℕ) (coded_list coded_ℕ))

-- more bytes of the last name
abbrev pub add_last : List ℕ → Entries → Entries
add_last bytes [] = []
add_last bytes (e ∷ []) = (e.0, e.1 ++ bytes) ∷ []
add_last bytes (e ∷ f ∷ es) = e ∷ add_last bytes (f ∷ es)

-- what files were made to hold, after a closing
abbrev pub stored_after : Stage → Entries → Entries
stored_after Closed es = es
stored_after (Reading name) es = es
stored_after (Writing name text) es = es ++ (name, text) ∷ []

-- some bytes more of the last name, of which there is a certain number
abbrev pub AddsLast : (List ℕ → Type 0) → Entries → Entries → Type 0
AddsLast P old new = (text : List ℕ) × P text × (new ≡ add_last text old)

-- the name, with such bytes
abbrev pub AddsBytes : List ℕ → (List ℕ → Type 0) → Entries → Entries → Type 0
AddsBytes name P old new = (text : List ℕ) × P text × (new ≡ old ++ (name, text) ∷ [])

-- nothing, or the name with some bytes
abbrev pub AddsSome : List ℕ → Entries → Entries → Type 0
AddsSome name old new = (new ≡ old) ⊎ AddsBytes name (λ text. Unit {0}) old new
