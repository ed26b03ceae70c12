-- The printed text of findings.
use Rattle.std.specs.Prelude.{ℕ, List, ◌++◌, length, codes, decimal}
use Rattle.std.specs.List.{flat_map}
use Rattle.shunt_instance.specs.defs.Words.{train_at}
use Rattle.shunt_instance.specs.defs.Instance.{Night, unit_at, position_at}
use Rattle.shunt_audit.specs.declared.types.Finding.{Finding}
use Rattle.shunt_audit.specs.declared.types.Finding.TheVariants.{UnitBare, UnitTwice, PlaceBare, PlaceTwice, WrongType, TooSoon, NoRouteIn, NoRouteOut, Crossing, TooLong, StatedCost}
use Rattle.shunt_report.specs.defs.Texts.{train_place}

-- `ARR PLACE`
abbrev pub unit_place : Night → ℕ → List ℕ
unit_place night u = train_place (train_at night.arrive (unit_at night u).train.0) (unit_at night u).place

-- `DEP PLACE`
abbrev pub position_place : Night → ℕ → List ℕ
position_place night v = train_place (train_at night.depart (position_at night v).train.0) (position_at night v).place

-- two numbers
abbrev pub two_numbers : ℕ → ℕ → List ℕ
two_numbers a b = decimal a ++ codes " " ++ decimal b

-- the number of a finding's kind, and its word
abbrev pub finding_word : Finding → List ℕ
finding_word (UnitBare u) = codes "1 unit-bare"
finding_word (UnitTwice u) = codes "2 unit-twice"
finding_word (PlaceBare v) = codes "3 place-bare"
finding_word (PlaceTwice v) = codes "4 place-twice"
finding_word (WrongType id) = codes "5 wrong-type"
finding_word (TooSoon id) = codes "6 too-soon"
finding_word (NoRouteIn id) = codes "7 no-route-in"
finding_word (NoRouteOut id) = codes "8 no-route-out"
finding_word (Crossing i j) = codes "9 crossing"
finding_word (TooLong id load) = codes "10 too-long"
finding_word (StatedCost stated real) = codes "11 stated-cost"

-- what it carries
abbrev pub finding_values : Night → Finding → List ℕ
finding_values night (UnitBare u) = unit_place night u
finding_values night (UnitTwice u) = unit_place night u
finding_values night (PlaceBare v) = position_place night v
finding_values night (PlaceTwice v) = position_place night v
finding_values night (WrongType id) = decimal id
finding_values night (TooSoon id) = decimal id
finding_values night (NoRouteIn id) = decimal id
finding_values night (NoRouteOut id) = decimal id
finding_values night (Crossing i j) = two_numbers i j
finding_values night (TooLong id load) = two_numbers id load
finding_values night (StatedCost stated real) = two_numbers stated real

-- `finding NUMBER WORD ..`
abbrev pub finding_line : Night → Finding → List ℕ
finding_line night f = codes "finding " ++ finding_word f ++ codes " " ++ finding_values night f ++ codes "\n"

-- a line for each finding, and `findings NUMBER cost COST`
unfoldable pub findings_of : Night → List Finding → ℕ → List ℕ
findings_of night findings cost = flat_map (finding_line night) findings ++ codes "findings " ++ decimal (length findings) ++ codes " cost " ++ decimal cost ++ codes "\n"
