-- Weights, sums and open cases that were worked by hand.
use Rattle.std.proofs.Common.{◌≡◌, ℕ, ℤ, pos, neg_ℤ, true, false, List, [], ◌∷◌, Option, Some, None, refl, arith}
use Rattle.std.proofs.lemmas.Int.{ints}
use Rattle.shunt_base.specs.declared.ids.Side.TheVariants.{A}
use Rattle.shunt_base.specs.declared.duals.PriceKind.{PriceKind}
use Rattle.shunt_base.specs.declared.duals.PriceKind.TheVariants as kind
use Rattle.shunt_base.specs.declared.duals.Price.{Price}
use Rattle.shunt_base.specs.declared.duals.Duals.{Duals}
use Rattle.shunt_base.specs.declared.duals.Case.{Case}
use Rattle.shunt_instance.specs.declared.records.UnitType.{UnitType}
use Rattle.shunt_instance.specs.declared.records.Station.{Station}
use Rattle.shunt_instance.specs.declared.records.Train.{Train}
use Rattle.shunt_instance.specs.declared.records.Origin.TheVariants as origin
use Rattle.shunt_instance.specs.defs.Instance.{Night}
use Rattle.shunt_blocks.specs.declared.records.Block.{Block}
use Rattle.shunt_blocks.specs.declared.records.Park.{Park}
use Rattle.shunt_blocks.specs.defs.Shapes.{shape_of}
use Rattle.shunt_prices.specs.defs.Prices.{count_of, stands_at}
use Rattle.shunt_prices.specs.defs.Limits.{case_at, from_of, plain}
use Rattle.shunt_prices.specs.defs.Cases.{duals_over, weight}
use Rattle.shunt_prices.specs.defs.Bounds.{case_sum, duals_sum, is_open, IsBoundOf}
use Rattle.shunt_prices.specs.defs.Steps.{raised}

-- ---- one track, and two trains of one unit each that leave in the order in which they came

abbrev of_type : ℕ → UnitType
of_type k = record { name = k ∷ []; length = 500; turn = 10 }

abbrev yard : ℕ → Station
yard room = record {
  name = 68 ∷ [];
  types = of_type 75 ∷ of_type 88 ∷ of_type 89 ∷ [];
  platforms = (80 ∷ []) ∷ [];
  tracks = record { name = 84 ∷ []; length = room; side_a = true; side_b = false } ∷ [];
  routes = record { platform = record { 0 = 0 }; track = record { 0 = 0 }; side = A; cost = 3 } ∷ [];
  permits = [];
  split = 5;
  couple = 4;
  unparked = 100;
}

abbrev train : ℕ → ℕ → ℕ → Train
train name minute k = record { name = name ∷ []; minute = minute; origin = origin.Platform (record { 0 = 0 }); units = record { 0 = k } ∷ []; placed = [] }

abbrev night : ℕ → Night
night room = record { station = yard room; arrive = train 97 1320 1 ∷ train 98 1380 2 ∷ []; depart = train 99 1740 1 ∷ train 100 1800 2 ∷ [] }

-- the block of the train with a number
abbrev block : ℕ → Option Park → Block
block k park = record { id = 1; arr = record { 0 = k }; p = 1; n = 1; dep = record { 0 = k }; q = 1; park = park }

abbrev parked : Option Park
parked = Some (record { track = record { 0 = 0 }; side_in = A; side_out = A })

-- a price of the track's room when the second train has come
abbrev price : PriceKind → ℕ → Price
price k value = record { kind = k; track = record { 0 = 0 }; train = record { 0 = 1 }; value = value }

abbrev duals : ℤ → List Price → Duals
duals alpha prices = record { alpha = alpha ∷ alpha ∷ []; beta = pos 0 ∷ pos 0 ∷ []; prices = prices }

-- ---- a price of length that makes both blocks cost what a better plan costs, on a track for one

abbrev priced : ℕ → Duals
priced value = duals (pos 100000) (price kind.Length value ∷ [])

just_right : duals_sum (night 500) [] (priced 188) ≡ pos 106000
just_right = refl

too_high : duals_sum (night 500) [] (priced 190) ≡ pos 105000
too_high = refl

parked_weighs : weight (night 500) (case_at (plain (priced 188)) 0) (block 0 parked) ≡ pos 100000
parked_weighs = refl

too_low : weight (night 500) (case_at (plain (priced 187)) 0) (block 0 parked) ≡ pos 99500
too_low = refl

unparked_weighs : weight (night 500) (case_at (plain (priced 187)) 0) (block 0 None) ≡ pos 100000
unparked_weighs = refl

both_values : duals_over (night 500) (priced 187) (shape_of (block 0 parked)) ≡ pos 100000
both_values = refl

-- ---- parts: a block is longer than half of the track, and at most one stands there

abbrev in_parts : ℕ → Duals
in_parts value = duals (pos 100000) (price (kind.Parts 1) value ∷ [])

parts_sum : duals_sum (night 750) [] (in_parts 94000) ≡ pos 106000
parts_sum = refl

parts_too_low : weight (night 750) (case_at (plain (in_parts 93999)) 0) (block 0 parked) ≡ pos 99999
parts_too_low = refl

half_of_the_track : count_of (kind.Parts 1) 1000 500 ≡ 0
half_of_the_track = refl

more_than_half : count_of (kind.Parts 1) 1000 501 ≡ 1
more_than_half = refl

eight_parts : count_of (kind.Parts 8) 1 40000 ≡ 359999
eight_parts = refl

-- ---- two cases: no unparked block, and one or more

abbrev two : ℤ → ℤ → List Case
two first second = record { to = 0; multiplier = first; duals = duals (pos 192500) (price kind.Length 373 ∷ []) } ∷
    record { to = 160; multiplier = second; duals = duals (pos 6000) [] } ∷ []

abbrev both_cases : List Case
both_cases = two (pos 92500) (neg_ℤ (pos 94000))

-- the multiplier counts for nothing where no block is unparked
first_sum : case_sum (night 750) [] both_cases 0 ≡ pos 105250
first_sum = refl

-- and a negative one is given back once where there is one block at least
second_sum : case_sum (night 750) [] both_cases 1 ≡ pos 106000
second_sum = refl

rounded_up : case_sum (night 750) [] (two (pos 92500) (neg_ℤ (pos 93999))) 1 ≡ pos 105999
rounded_up = refl

last_too_low : case_sum (night 750) [] (two (pos 92500) (neg_ℤ (pos 92999))) 1 ≡ pos 104999
last_too_low = refl

-- a positive one is taken as often as there may be unparked blocks
positive : case_sum (night 750) [] (two (pos 0) (pos 1)) 1 ≡ pos 11840
positive = refl

from_one : from_of both_cases 1 ≡ 1
from_one = refl

open_at_first : is_open both_cases (block 0 parked ∷ []) 0 ≡ true
open_at_first = refl

closed_then : is_open both_cases (block 0 None ∷ []) 0 ≡ false
closed_then = refl

last_stays_open : is_open both_cases (block 0 None ∷ []) 1 ≡ true
last_stays_open = refl

-- a path's block weighs, and its unit and its position have no values any more
at_a_path : case_sum (night 750) (block 0 None ∷ []) both_cases 1 ≡ pos 106000
at_a_path = refl

-- ---- who stands there

comes_first : stands_at (night 750) (price kind.Length 1) (block 0 parked) ≡ true
comes_first = refl

-- at the moment of the first train the second has not come
comes_later : stands_at (night 750) (record (price kind.Length 1) { train = record { 0 = 0 } }) (block 1 parked) ≡ false
comes_later = refl

-- a block that leaves in the minute of the moment doesn't stand there
leaves_then : stands_at (record (night 750) { depart = train 99 1380 1 ∷ [] }) (price kind.Length 1) (block 0 parked) ≡ false
leaves_then = refl

-- ---- bounds and steps

exact : IsBoundOf (pos 106000) (pos 106)
exact = record { enough = omega (arith, ints); least = omega (arith, ints) }

up : IsBoundOf (pos 105001) (pos 106)
up = record { enough = omega (arith, ints); least = omega (arith, ints) }

negative : IsBoundOf (neg_ℤ (pos 1999)) (neg_ℤ (pos 1))
negative = record { enough = omega (arith, ints); least = omega (arith, ints) }

listed_rises : raised 0 1 (price (kind.Parts 1) 5 ∷ price kind.Length 7 ∷ []) ≡ price (kind.Parts 1) 5 ∷ price kind.Length 8 ∷ []
listed_rises = refl

new_one : raised 0 1 (price (kind.Parts 1) 5 ∷ []) ≡ price (kind.Parts 1) 5 ∷ price kind.Length 1 ∷ []
new_one = refl
