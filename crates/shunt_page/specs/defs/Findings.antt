-- Findings in words.
use Rattle.std.specs.Prelude.{ℕ, List, ◌++◌, codes, decimal}
use Rattle.shunt_instance.specs.defs.Words.{train_at}
use Rattle.shunt_instance.specs.defs.Instance.{Night, unit_at, position_at}
use Rattle.shunt_audit.specs.declared.types.Finding.{Finding}
use Rattle.shunt_audit.specs.declared.types.Finding.TheVariants.{UnitBare, UnitTwice, PlaceBare, PlaceTwice, WrongType, TooSoon, NoRouteIn, NoRouteOut, Crossing, TooLong, StatedCost}
use Rattle.shunt_page.specs.declared.records.FindingLine.{FindingLine}

-- `unit ARR PLACE` and `position DEP PLACE`
abbrev pub unit_words : Night → ℕ → List ℕ
unit_words night u = codes "unit " ++ (train_at night.arrive (unit_at night u).train.0).name ++ codes " " ++ decimal (unit_at night u).place

abbrev pub position_words : Night → ℕ → List ℕ
position_words night v = codes "position " ++ (train_at night.depart (position_at night v).train.0).name ++ codes " " ++ decimal (position_at night v).place

abbrev pub block_words : ℕ → List ℕ
block_words id = codes "block " ++ decimal id

abbrev pub two_words : ℕ → ℕ → List ℕ
two_words i j = block_words i ++ codes " and " ++ block_words j

abbrev pub load_words : ℕ → ℕ → List ℕ
load_words id load = block_words id ++ codes " with " ++ decimal load ++ codes " dm"

abbrev pub cost_words : ℕ → ℕ → List ℕ
cost_words stated real = codes "cost " ++ decimal real ++ codes ", stated " ++ decimal stated

-- what a finding is of
abbrev pub finding_of : Night → Finding → List ℕ
finding_of night (UnitBare u) = unit_words night u
finding_of night (UnitTwice u) = unit_words night u
finding_of night (PlaceBare v) = position_words night v
finding_of night (PlaceTwice v) = position_words night v
finding_of night (WrongType id) = block_words id
finding_of night (TooSoon id) = block_words id
finding_of night (NoRouteIn id) = block_words id
finding_of night (NoRouteOut id) = block_words id
finding_of night (Crossing i j) = two_words i j
finding_of night (TooLong id load) = load_words id load
finding_of night (StatedCost stated real) = cost_words stated real

-- what it says
abbrev pub finding_says : Finding → List ℕ
finding_says (UnitBare u) = codes ": the unit is in no block"
finding_says (UnitTwice u) = codes ": the unit is in two or more blocks"
finding_says (PlaceBare v) = codes ": no unit fills it"
finding_says (PlaceTwice v) = codes ": two or more units fill it"
finding_says (WrongType id) = codes ": a unit differs in type from its position, or its track permits another type"
finding_says (TooSoon id) = codes ": its train leaves before a unit is ready"
finding_says (NoRouteIn id) = codes ": there is no way in"
finding_says (NoRouteOut id) = codes ": there is no way out"
finding_says (Crossing i j) = codes " cross: one stands in the way of the other"
finding_says (TooLong id load) = codes " on its track just after its entry: the track is shorter"
finding_says (StatedCost stated real) = codes ": the plan states another cost than its blocks have"

abbrev pub finding_words : Night → Finding → List ℕ
finding_words night f = finding_of night f ++ finding_says f

abbrev pub finding_line : Night → Finding → FindingLine
finding_line night f = record { words = finding_words night f }
