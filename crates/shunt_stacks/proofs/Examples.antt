-- Stacks, gains and what goes through on two nights that were worked by hand.
use Rattle.std.proofs.Common.{◌≡◌, ℕ, ◌+◌, ◌++◌, ℤ, pos, neg_ℤ, Bool, true, false, [], ◌∷◌, Option, Some, None, refl}
use Rattle.shunt_base.specs.declared.ids.Side.{Side}
use Rattle.shunt_base.specs.declared.ids.Side.TheVariants.{A, B}
use Rattle.shunt_base.specs.declared.duals.Case.{Case}
use Rattle.shunt_instance.specs.declared.records.UnitType.{UnitType}
use Rattle.shunt_instance.specs.declared.records.Station.{Station}
use Rattle.shunt_instance.specs.declared.records.Train.{Train}
use Rattle.shunt_instance.specs.declared.records.Origin.TheVariants as origin
use Rattle.shunt_instance.specs.defs.Instance.{Night}
use Rattle.shunt_blocks.specs.declared.records.Block.{Block}
use Rattle.shunt_blocks.specs.declared.records.Park.{Park}
use Rattle.shunt_choices.specs.defs.Choices.{runs_placed}
use Rattle.shunt_prices.specs.defs.Limits.{case_at, plain}
use Rattle.shunt_stacks.specs.defs.Stacks.{Stack, stacks, is_of, blocks_of, stack_of}
use Rattle.shunt_stacks.specs.defs.Fillings.{gain, gain_of}
use Rattle.shunt_stacks.specs.defs.Spans.{Span, best}

-- ---- one track, and two trains of one unit each, which leave in the order in which they came or in the other

abbrev of_type : ℕ → UnitType
of_type k = record { name = k ∷ []; length = 500; turn = 10 }

abbrev yard : ℕ → Bool → Station
yard room through = record {
  name = 68 ∷ [];
  types = of_type 75 ∷ of_type 88 ∷ of_type 89 ∷ [];
  platforms = (80 ∷ []) ∷ [];
  tracks = record { name = 84 ∷ []; length = room; side_a = true; side_b = through } ∷ [];
  routes = record { platform = record { 0 = 0 }; track = record { 0 = 0 }; side = A; cost = 3 } ∷ [];
  permits = [];
  split = 5;
  couple = 4;
  unparked = 100;
}

abbrev train : ℕ → ℕ → ℕ → Train
train name minute k = record { name = name ∷ []; minute = minute; origin = origin.Platform (record { 0 = 0 }); units = record { 0 = k } ∷ []; placed = [] }

abbrev night : ℕ → ℕ → ℕ → Night
night room first second = record { station = yard room false; arrive = train 97 1320 1 ∷ train 98 1380 2 ∷ []; depart = train 99 1740 first ∷ train 100 1800 second ∷ [] }

abbrev crossing : Night
crossing = night 1000 1 2

abbrev nested : ℕ → Night
nested room = night room 2 1

-- the block of one train that leaves with another
abbrev block : ℕ → ℕ → Option Park → Block
block arr dep park = record { id = 1; arr = record { 0 = arr }; p = 1; n = 1; dep = record { 0 = dep }; q = 1; park = park }

abbrev park : Side → Side → Option Park
park side_in side_out = Some (record { track = record { 0 = 0 }; side_in = side_in; side_out = side_out })

abbrev end : Side → Stack
end side = record { track = record { 0 = 0 }; side = side }

-- ---- stacks

open_at_one : stacks (yard 1000 false) ≡ end A ∷ []
open_at_one = refl

open_at_both : stacks (yard 1000 true) ≡ end A ∷ end B ∷ []
open_at_both = refl

comes_and_goes : is_of (end A) (park A A) ≡ true
comes_and_goes = refl

at_the_other_end : is_of (end A) (park B B) ≡ false
at_the_other_end = refl

goes_through : is_of (end A) (park A B) ≡ false
goes_through = refl

comes_through : is_of (end A) (park B A) ≡ false
comes_through = refl

unparked_of_none : stack_of None ≡ None
unparked_of_none = refl

through_of_none : stack_of (park A B) ≡ None
through_of_none = refl

its_own : stack_of (park B B) ≡ Some (end B)
its_own = refl

-- ---- gains by duals that leave each block a gain

abbrev case : Case
case = case_at (plain (record { alpha = pos 100000 ∷ pos 100000 ∷ []; beta = pos 0 ∷ pos 0 ∷ []; prices = [] })) 0

parked_gains : gain crossing case (block 0 0 (park A A)) ≡ pos 94000
parked_gains = refl

unparked_gains : gain crossing case (block 0 0 None) ≡ pos 0
unparked_gains = refl

both_gain : gain_of (nested 1000) case (block 0 1 (park A A) ∷ block 1 0 (park A A) ∷ []) ≡ pos 188000
both_gain = refl

-- ---- what stands together

in_order_crosses : runs_placed crossing (block 0 0 (park A A) ∷ block 1 1 (park A A) ∷ []) ≡ false
in_order_crosses = refl

-- the block of a path is in the way as well
path_crosses : runs_placed crossing (blocks_of (end A) (block 0 0 (park A A) ∷ []) ++ block 1 1 (park A A) ∷ []) ≡ false
path_crosses = refl

last_in_first_out : runs_placed (nested 1000) (block 0 1 (park A A) ∷ block 1 0 (park A A) ∷ []) ≡ true
last_in_first_out = refl

no_room : runs_placed (nested 999) (block 0 1 (park A A) ∷ block 1 0 (park A A) ∷ []) ≡ false
no_room = refl

-- a path's blocks that go through stand in no stack
only_own : blocks_of (end A) (block 0 0 (park A B) ∷ block 1 1 (park A A) ∷ block 0 0 None ∷ []) ≡ block 1 1 (park A A) ∷ []
only_own = refl

-- ---- spans of the same nights, with the numbers of their four events

abbrev span : ℕ → ℕ → ℤ → Span
span from until gains = record { from = from; inside = from + 1; until = until; past = until + 1; length = 500; gain = gains }

one_of_two : best 4 [] (span 0 2 (pos 94000) ∷ span 1 3 (pos 94000) ∷ []) 0 4 1000 ≡ Some (pos 94000)
one_of_two = refl

both_of_two : best 4 [] (span 0 3 (pos 94000) ∷ span 1 2 (pos 94000) ∷ []) 0 4 1000 ≡ Some (pos 188000)
both_of_two = refl

room_for_one : best 4 [] (span 0 3 (pos 94000) ∷ span 1 2 (pos 94000) ∷ []) 0 4 999 ≡ Some (pos 94000)
room_for_one = refl

-- one after the other on a track for one
one_by_one : best 4 [] (span 0 1 (pos 94000) ∷ span 2 3 (pos 94000) ∷ []) 0 4 500 ≡ Some (pos 188000)
one_by_one = refl

-- what loses is left out
not_the_second : best 4 [] (span 0 3 (pos 94000) ∷ span 1 2 (neg_ℤ (pos 1)) ∷ []) 0 4 1000 ≡ Some (pos 94000)
not_the_second = refl

-- a fixed span that the other crosses
in_the_way : best 4 (span 0 2 (pos 0) ∷ []) (span 1 3 (pos 94000) ∷ []) 0 4 1000 ≡ Some (pos 0)
in_the_way = refl

inside_fixed : best 4 (span 0 3 (pos 0) ∷ []) (span 1 2 (pos 94000) ∷ []) 0 4 1000 ≡ Some (pos 94000)
inside_fixed = refl

-- a fixed one that doesn't fit
none_at_all : best 4 (span 0 2 (pos 0) ∷ []) (span 1 3 (pos 94000) ∷ []) 0 4 499 ≡ None
none_at_all = refl
