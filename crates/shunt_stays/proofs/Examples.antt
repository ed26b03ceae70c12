-- Runs, crossings and loads that were worked by hand.
use Rattle.std.proofs.Common.{◌≡◌, ℕ, ◌-◌, [], ◌∷◌, Ok, Err, true, false, refl}
use Rattle.shunt_base.specs.declared.ids.Side.{Side}
use Rattle.shunt_base.specs.declared.ids.Side.TheVariants.{A, B}
use Rattle.shunt_base.specs.declared.keys.Stay.{Stay}
use Rattle.shunt_stays.specs.defs.Events.{entry_of, leave_of, in_order}
use Rattle.shunt_stays.specs.defs.Run.{run_of}
use Rattle.shunt_stays.specs.defs.Run.Stop.{Blocked, Over}
use Rattle.shunt_stays.specs.defs.Crossings.{pairs_in, overs_in}

-- a block of this id and length that stands on track 0: its sides, its two minutes, its trains and its places there
abbrev stay : ℕ → ℕ → Side → Side → ℕ → ℕ → ℕ → ℕ → ℕ → ℕ → Stay
stay id length side_in side_out enters leaves arrival departure p q = record {
  id = id;
  track = record { 0 = 0 };
  side_in = side_in;
  side_out = side_out;
  enter = record { minute = enters; enters = true; train = arrival; place = p; id = id };
  leave = record { minute = leaves; enters = false; train = departure; place = 9 - q; id = id };
  length = length;
}

-- two blocks of one train, which enter by A; the first one wants to leave by A before the other
abbrev x : Stay
x = stay 1 500 A A 1320 1740 0 0 1 1

abbrev y : Stay
y = stay 2 500 A A 1320 1800 0 1 2 1

first_in_first_out : run_of (1000 ∷ []) (x ∷ y ∷ []) ≡ Err (Blocked (leave_of x))
first_in_first_out = refl

one_pair : pairs_in (x ∷ y ∷ []) ≡ 1
one_pair = refl

none_over : overs_in (1000 ∷ []) (x ∷ y ∷ []) ≡ 0
none_over = refl

-- in order of place, whatever the order of the list
by_place : in_order (y ∷ x ∷ []) ≡ entry_of x ∷ entry_of y ∷ leave_of x ∷ leave_of y ∷ []
by_place = refl

-- a block of 1000 dm on 999 dm
abbrev long : Stay
long = stay 1 1000 A A 1320 1740 0 0 1 1

too_long : run_of (999 ∷ []) (long ∷ []) ≡ Err (Over (entry_of long) 1000)
too_long = refl

one_over : overs_in (999 ∷ []) (long ∷ []) ≡ 1
one_over = refl

no_pair : pairs_in (long ∷ []) ≡ 0
no_pair = refl

-- the second enters in the minute in which the first leaves
abbrev early : Stay
early = stay 1 500 A A 1320 1800 0 0 1 1

abbrev late : Stay
late = stay 2 500 A A 1800 1860 1 1 1 1

one_after_the_other : run_of (500 ∷ []) (late ∷ early ∷ []) ≡ Ok (record {
  steps = (entry_of early, 500) ∷ (leave_of early, 0) ∷ (entry_of late, 500) ∷
      (leave_of late, 0) ∷ [];
  tracks = [] ∷ [];
})
one_after_the_other = refl

never_crossed : pairs_in (late ∷ early ∷ []) ≡ 0
never_crossed = refl

never_over : overs_in (500 ∷ []) (late ∷ early ∷ []) ≡ 0
never_over = refl

-- both sides in use: each goes where it came from, or one stands in the way
abbrev there : Stay
there = stay 2 500 B B 1380 1800 1 1 1 1

abbrev here : Stay
here = stay 2 500 A A 1380 1800 1 1 1 1

two_sided : pairs_in (x ∷ there ∷ []) ≡ 0
two_sided = refl

two_sided_run : run_of (1000 ∷ []) (x ∷ there ∷ []) ≡ Ok (record {
  steps = (entry_of x, 500) ∷ (entry_of there, 1000) ∷ (leave_of x, 500) ∷
      (leave_of there, 0) ∷ [];
  tracks = [] ∷ [];
})
two_sided_run = refl

in_the_way : pairs_in (x ∷ here ∷ []) ≡ 1
in_the_way = refl

in_the_way_run : run_of (1000 ∷ []) (x ∷ here ∷ []) ≡ Err (Blocked (leave_of x))
in_the_way_run = refl

-- two blocks that leave in one train: the one of the later place leaves first
abbrev front : Stay
front = stay 1 500 A A 1320 1800 0 0 1 2

abbrev back : Stay
back = stay 2 500 A A 1320 1800 0 0 2 3

leaves_descending : in_order (front ∷ back ∷ []) ≡ entry_of front ∷ entry_of back ∷ leave_of back ∷ leave_of front ∷ []
leaves_descending = refl
