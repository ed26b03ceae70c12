-- Matchings and shortages of a night.
use Rattle.std.specs.Prelude.{ℕ, ◌<◌, Bool, List, length, ⊤}
use Rattle.shunt_instance.specs.defs.Instance.{Night}
use Rattle.shunt_instance.specs.defs.Matching.{IsMatching, IsMatchingOfRest, unit_entries, position_entries}
use Rattle.shunt_matching.specs.declared.types.Shortage.{Shortage}
use Rattle.shunt_matching.specs.declared.types.Shortage.TheVariants.{Balance, ByMinute}
use Rattle.shunt_matching.specs.declared.pairs.MatchError.{MatchError}
use Rattle.shunt_matching.specs.declared.pairs.MatchError.TheVariants.{Short, Memory}
use Rattle.shunt_matching.specs.defs.Counts.{first_fit_of}
use Rattle.shunt_matching.specs.defs.Shortages.{IsFirstShortage}

-- the list is a matching of the night's units and positions
abbrev pub Matches : Night → List ℕ → Type 0
Matches night place = IsMatching (unit_entries night) (position_entries night) place

-- the list is a matching of the units and positions of the night that these masks don't leave out
abbrev pub MatchesRest : Night → List Bool → List Bool → List ℕ → Type 0
MatchesRest night units places place = IsMatchingOfRest (unit_entries night) (position_entries night) units places place

-- there is such a list
abbrev pub HasMatching : Night → List Bool → List Bool → Type 0
HasMatching night units places = (place : List ℕ) × MatchesRest night units places place

-- there is no such list
abbrev pub HasNoMatching : Night → List Bool → List Bool → Type 0
HasNoMatching night units places = (place : List ℕ) → MatchesRest night units places place → ⊥

-- the first shortage of those
abbrev pub IsShortageOf : Night → List Bool → List Bool → Shortage → Type 0
IsShortageOf night units places s = IsFirstShortage (unit_entries night) (position_entries night) units places s

-- the fact holds of the shortage, where the error is one
abbrev pub ForShort : MatchError → (Shortage → Type 0) → Type 0
ForShort (Short s) P = P s
ForShort Memory P = ⊤

-- the list that pairs the k-th unit of each type with the k-th position of that type, among those
abbrev pub first_fit_of_rest : Night → List Bool → List Bool → List ℕ
first_fit_of_rest night units places = first_fit_of (unit_entries night) (position_entries night) units places

-- the type that a shortage names is one of the night's station
abbrev pub HasItsType : Night → Shortage → Type 0
HasItsType night (Balance kind arrive depart) = kind.0 < length night.station.types
HasItsType night (ByMinute kind minute need have) = kind.0 < length night.station.types
