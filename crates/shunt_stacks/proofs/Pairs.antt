-- Blocks of one stack that share nothing: when they cross, when their spans are nested, and who stands when one comes.
use Rattle.std.specs.Prelude.{◌≢◌, ◌==◌, ◌&&◌, nat_le, nat_lt, cond, IfSome, Option, Some, None}
use Rattle.std.specs.Ordering.{is_lt, is_le}
use Rattle.std.proofs.Common.{◌≡◌, ◌⊎◌, ⊎_elim, inl, inr, ℕ, ◌+◌, ◌-◌, ◌^◌, ◌<◌, ◌≤◌, Bool, true, false, List, take, length, pos, refl, sym, subst, ap, ◌∙◌, arith}
use Rattle.std.proofs.lemmas.Bool.{cases_lt, eqb-true, and_parts, eq-eqb, false≢true}
use Rattle.std.proofs.lemmas.Bool.Decides.{nat_tests}
use Rattle.shunt_base.specs.declared.ids.Side.{Side}
use Rattle.shunt_base.specs.declared.keys.Stay.{Stay}
use Rattle.shunt_base.specs.defs.Keys.{key_cmp, IsBefore as ComesBefore, IsWellFormed}
use Rattle.shunt_base.specs.defs.Sides.{same_side}
use Rattle.shunt_base.proofs.Sides.{same_side_tells}
use Rattle.shunt_stays.specs.defs.Events.{key_before}
use Rattle.shunt_stays.specs.defs.Crossings.{Crosses, stands_at}
use Rattle.shunt_instance.specs.declared.records.Train.{Train}
use Rattle.shunt_instance.specs.declared.records.Unit.{Unit as TrainUnit}
use Rattle.shunt_instance.specs.declared.records.Position.{Position}
use Rattle.shunt_instance.specs.defs.Words.{train_at, kind_at, unit_count}
use Rattle.shunt_instance.specs.defs.Wellformed.{IsTrain}
use Rattle.shunt_instance.specs.defs.Instance.{Night, IsInstance, IsOrderedNight, make_unit, make_position, unit_at, position_at, unit_total, position_total}
use Rattle.shunt_blocks.specs.declared.records.Shape.{Shape}
use Rattle.shunt_blocks.specs.declared.records.Block.{Block}
use Rattle.shunt_blocks.specs.declared.records.Park.{Park}
use Rattle.shunt_blocks.specs.defs.Shapes.{shape_of, unit_from, position_from, AreRunsWithin, IsWithinTrains, IsShape}
use Rattle.shunt_blocks.specs.defs.Blocks.{IsBlockButId}
use Rattle.shunt_blocks.specs.defs.Lists.{has_unit, has_position}
use Rattle.shunt_blocks.specs.defs.Stays.{block_length, enter_key, leave_key, is_too_soon, parked_stay, stay_with, stay_of}
use Rattle.shunt_choices.proofs.Given.{PlaceLaws}
use Rattle.shunt_stacks.specs.defs.Stacks.{Stack, is_of}
use Rattle.shunt_stacks.specs.defs.Spans.{Span, IsSpan, IsEarlierSpan, IsInside, AreNested, is_standing}
use Rattle.shunt_stacks.specs.defs.Numbers.{arrives, departs, IsNumbering, span_of}
use Rattle.shunt_stacks.proofs.Keyed.{Ordered, by_minute, by_train, by_place, by_kind, itself, not_before_itself, less_not_more}
use Rattle.shunt_blocks.proofs.Shapes.{is_within}

-- what the laws of the crates below say
pub record EventLaws : Type 0 where
  pub places : PlaceLaws
  pub unit : (night : Night) (s : Shape) (k : ℕ) → AreRunsWithin night s → k < s.n
      → unit_at night (unit_from night s + k) ≡ make_unit s.arr.0 (s.p + k) (kind_at (train_at night.arrive s.arr.0) (s.p + k))
  pub position : (night : Night) (s : Shape) (k : ℕ) → AreRunsWithin night s → k < s.n
      → position_at night (position_from night s + k) ≡ make_position s.dep.0 (s.q + k) (kind_at (train_at night.depart s.dep.0) (s.q + k))
  pub opened : (night : Night) → IsInstance night → IsOrderedNight night
  pub behind : (trains : List Train) (i j : ℕ) → i < j → i < length trains → unit_count (take i trains) + length (train_at trains i).units ≤ unit_count (take j trains)
  pub formed : (night : Night) (b : Block) → IsInstance night → IsWithinTrains night b → b.id < 2 ^ 32 → IfSome (stay_of night b) IsWellFormed
  pub in_time : (night : Night) (s : Shape) → IsShape night s → is_too_soon night s ≡ false

-- no unit and no position is in both
pub record AreApart (night : Night) (x y : Block) : Type 0 where
  pub units : (u : ℕ) → has_unit night (shape_of x) u ≡ true → has_unit night (shape_of y) u ≡ true → ⊥
  pub positions : (v : ℕ) → has_position night (shape_of x) v ≡ true → has_position night (shape_of y) v ≡ true → ⊥

-- two runs that share nothing: the one ends before the other begins
apart_runs : (a b n m : ℕ) → 1 ≤ n → 1 ≤ m → ((u : ℕ) → (nat_le a u && nat_lt u (a + n)) ≡ true → (nat_le b u && nat_lt u (b + m)) ≡ true → ⊥) → (a + n ≤ b) ⊎ (b + m ≤ a)
apart_runs a b n m some more apart = ⊎_elim
    (λ less. ⊎_elim (λ into. absurd (apart b (at less into) (own b m more))) (λ past. inl past) (cases_lt b (a + n)))
    (λ ge. ⊎_elim (λ into. absurd (apart a (own a n some) (from ge into))) (λ past. inr past) (cases_lt a (b + m)))
    (cases_lt a b)
  where
    own : (c k : ℕ) → 1 ≤ k → (nat_le c c && nat_lt c (c + k)) ≡ true
    own c k le = grind (arith, nat_tests)

    at : a < b → b < a + n → (nat_le a b && nat_lt b (a + n)) ≡ true
    at lt into = grind (arith, nat_tests)

    from : b ≤ a → a < b + m → (nat_le b a && nat_lt a (b + m)) ≡ true
    from le into = grind (arith, nat_tests)

module _ (laws : EventLaws) (night : Night) (i : IsInstance night) (stack : Stack) (events : ℕ) (entry leave : ℕ → ℕ) (num : IsNumbering night events entry leave) where
  -- ---- stays

  -- the stay of a block of the stack
  abbrev pub stay : Block → Stay
  stay b = record {
    id = b.id;
    track = stack.track;
    side_in = stack.side;
    side_out = stack.side;
    enter = enter_key night b;
    leave = leave_key night b;
    length = block_length
        night b;
  }

  one_stay : (b : Block) (t u : ℕ) (x y z : Side) → t ≡ u → x ≡ z → y ≡ z
      → parked_stay night b (record { track = record { 0 = t }; side_in = x; side_out = y })
      ≡ record { id = b.id; track = record { 0 = u }; side_in = z; side_out = z; enter = enter_key night b; leave = leave_key night b; length = block_length night b }
  one_stay b t u x y z e f g =
      ap (λ (n : ℕ). parked_stay night b (record { track = record { 0 = n }; side_in = x; side_out = y })) e
      ∙ ap (λ (s : Side). parked_stay night b (record { track = record { 0 = u }; side_in = s; side_out = y })) f
      ∙ ap (λ (s : Side). parked_stay night b (record { track = record { 0 = u }; side_in = z; side_out = s })) g

  stay_there : (b : Block) (o : Option Park) → is_of stack o ≡ true → is_too_soon night (shape_of b) ≡ false → stay_with night b o ≡ Some (stay b)
  stay_there b None of soon = absurd (false≢true of)
  stay_there b (Some k) of soon =
      let e = and_parts (k.track.0 == stack.track.0) (same_side k.side_in stack.side && same_side k.side_out stack.side) of in
      let f = and_parts (same_side k.side_in stack.side) (same_side k.side_out stack.side) e.1 in
      ap (λ (t : Bool). cond t None (Some (parked_stay night b k))) soon
      ∙ ap Some (one_stay b k.track.0 stack.track.0 k.side_in k.side_out stack.side (eqb-true k.track.0 stack.track.0 e.0) (same_side_tells k.side_in stack.side f.0)
      (same_side_tells k.side_out stack.side f.1))

  pub has_stay : (b : Block) → IsBlockButId night b → is_of stack b.park ≡ true → stay_of night b ≡ Some (stay b)
  has_stay b is of = stay_there b b.park of (laws.in_time night (shape_of b) is.shape)

  -- ---- the numbers of a block's events

  abbrev span : Block → Span
  span b = span_of night entry leave (λ x. pos 0) b

  abbrev pub first_unit_of : Block → ℕ
  first_unit_of b = unit_from night (shape_of b)

  abbrev pub first_position_of : Block → ℕ
  first_position_of b = position_from night (shape_of b)

  -- when it comes and when it goes
  abbrev comes : Block → ℕ
  comes b = (train_at night.arrive b.arr.0).minute

  abbrev goes : Block → ℕ
  goes b = (train_at night.depart b.dep.0).minute

  module _ (b : Block) (is : IsBlockButId night b) where
    unit_in : (k : ℕ) → k < b.n → first_unit_of b + k < unit_total night
    unit_in k lt = laws.places.unit_in night (shape_of b) (first_unit_of b + k) is.shape.within (record { from = omega arith; to = omega (arith, lt) })

    position_in : (k : ℕ) → k < b.n → first_position_of b + k < position_total night
    position_in k lt = laws.places.position_in night (shape_of b) (first_position_of b + k) is.shape.within (record { from = omega arith; to = omega (arith, lt) })

    arrives_then : (k : ℕ) → k < b.n → arrives night (first_unit_of b + k) ≡ comes b
    arrives_then k lt = ap (λ (x : TrainUnit). (train_at night.arrive x.train.0).minute) (laws.unit night (shape_of b) k is.shape.within lt)

    departs_then : (k : ℕ) → k < b.n → departs night (first_position_of b + k) ≡ goes b
    departs_then k lt = ap (λ (x : Position). (train_at night.depart x.train.0).minute) (laws.position night (shape_of b) k is.shape.within lt)

    train_of : (k : ℕ) → k < b.n → (position_at night (first_position_of b + k)).train.0 ≡ b.dep.0
    train_of k lt = ap (λ (x : Position). x.train.0) (laws.position night (shape_of b) k is.shape.within lt)

    place_of : (k : ℕ) → k < b.n → (position_at night (first_position_of b + k)).place ≡ b.q + k
    place_of k lt = ap (λ (x : Position). x.place) (laws.position night (shape_of b) k is.shape.within lt)

    last : b.n - 1 < b.n
    last = omega (arith, is.shape.within.n)

    zero_in : 0 < b.n
    zero_in = omega (arith, is.shape.within.n)

    -- its entries rise, and its leaves fall
    later_entry : (k : ℕ) → k < b.n → entry (first_unit_of b) ≤ entry (first_unit_of b + k)
    later_entry k lt = ⊎_elim
        (λ none. let e : first_unit_of b ≡ first_unit_of b + k = omega (arith, none) in let same = ap entry e in omega (arith, same))
        (λ some. let less = num.entries (first_unit_of b) (first_unit_of b + k) (omega (arith, some)) (unit_in k lt) in omega (arith, less))
        (zero_or k)
      where
        zero_or : (k : ℕ) → (k ≡ 0) ⊎ (1 ≤ k)
        zero_or k = ⊎_elim (λ less. inl (omega (arith, less))) (λ ge. inr ge) (cases_lt k 1)

    earlier_leave : (k : ℕ) → k < b.n → leave (first_position_of b + k) ≤ leave (first_position_of b)
    earlier_leave k lt = ⊎_elim
        (λ less. let e : first_position_of b + k ≡ first_position_of b = omega (arith, less) in let same = ap leave e in omega (arith, same))
        (λ some.
        let zero : first_position_of b + 0 ≡ first_position_of b = omega arith in
        let first = subst (λ (v : ℕ). (position_at night v).train.0 ≡ b.dep.0) zero (train_of 0 zero_in) in
        let place = subst (λ (v : ℕ). (position_at night v).place ≡ b.q + 0) zero (place_of 0 zero_in) in
        let inside = subst (λ (v : ℕ). v < position_total night) zero (position_in 0 zero_in) in
        let before = num.leaves (first_position_of b + k) (first_position_of b) (position_in k lt) inside
        (inr (train_of k lt ∙ sym first, omega (arith, place_of k lt, place, some))) in
        omega (arith, before))
        (cases_lt k 1)

  -- ---- the order of two blocks' events

  -- the one comes while the other stands, or after it has left
  while_there : (x y : Block) → IsBlockButId night x → IsBlockButId night y → comes y < goes x → (k j : ℕ) → k < y.n → j < x.n
      → entry (first_unit_of y + k) < leave (first_position_of x + j)
  while_there x y a b lt k j p q =
      num.entry_first (first_unit_of y + k) (first_position_of x + j) (unit_in y b k p) (position_in x a j q) (omega (arith, arrives_then y b k p, departs_then x a j q, lt))

  after_it : (x y : Block) → IsBlockButId night x → IsBlockButId night y → goes x ≤ comes y → (k j : ℕ) → k < y.n → j < x.n
      → leave (first_position_of x + j) < entry (first_unit_of y + k)
  after_it x y a b le k j p q = num.leave_first (first_unit_of y + k) (first_position_of x + j) (unit_in y b k p) (position_in x a j q)
      (omega (arith, arrives_then y b k p, departs_then x a j q, le))

  -- who comes first
  record ComesFirst (x y : Block) : Type 0 where
    units : first_unit_of x + x.n ≤ first_unit_of y
    keys : Ordered (enter_key night x) (enter_key night y)

  record LeavesFirst (x y : Block) : Type 0 where
    number : leave (first_position_of x) < leave (first_position_of y + (y.n - 1))
    keys : Ordered (leave_key night x) (leave_key night y)

  h : IsOrderedNight night
  h = laws.opened night i

  comes_first : (x y : Block) → IsBlockButId night x → IsBlockButId night y → first_unit_of x + x.n ≤ first_unit_of y → ComesFirst x y
  comes_first x y a b le = record { units = le; keys = ordered }
    where
      r : AreRunsWithin night (shape_of x)
      r = a.shape.within

      s : AreRunsWithin night (shape_of y)
      s = b.shape.within

      ordered : Ordered (enter_key night x) (enter_key night y)
      ordered = ⊎_elim
          (λ lt. by_train (comes x) (comes y) true x.arr.0 y.arr.0 x.p y.p x.id y.id (h.arrive_rises x.arr.0 y.arr.0 _ (omega (arith, lt)) s.arr) lt)
          (λ ge. ⊎_elim
          (λ more. absurd (omega (arith, laws.behind night.arrive y.arr.0 x.arr.0 more s.arr, le, r.n, r.p, s.p, s.n, s.units)))
          (λ le_too. let same : x.arr.0 ≡ y.arr.0 = omega (arith, ge, le_too) in
          let firsts = ap (λ (t : ℕ). unit_count (take t night.arrive)) same in
          by_place (comes x) (comes y) true x.arr.0 y.arr.0 x.p y.p x.id y.id (ap (λ (t : ℕ). (train_at night.arrive t).minute) same) same
          (omega (arith, le, firsts, r.p, s.p, r.n)))
          (cases_lt y.arr.0 x.arr.0))
          (cases_lt x.arr.0 y.arr.0)

  comes_either : (x y : Block) → IsBlockButId night x → IsBlockButId night y → AreApart night x y → ComesFirst x y ⊎ ComesFirst y x
  comes_either x y a b apart = ⊎_elim
      (λ le. inl (comes_first x y a b le)) (λ le. inr (comes_first y x b a le))
      (apart_runs (first_unit_of x) (first_unit_of y) x.n y.n a.shape.within.n b.shape.within.n apart.units)

  -- the first unit and the first position
  plus_none : (n : ℕ) → n + 0 ≡ n
  plus_none n = omega arith

  first_train : (b : Block) → IsBlockButId night b → (position_at night (first_position_of b)).train.0 ≡ b.dep.0
  first_train b is = subst (λ (v : ℕ). (position_at night v).train.0 ≡ b.dep.0) (plus_none (first_position_of b)) (train_of b is 0 (zero_in b is))

  first_place : (b : Block) → IsBlockButId night b → (position_at night (first_position_of b)).place ≡ b.q
  first_place b is = subst (λ (v : ℕ). (position_at night v).place ≡ b.q) (plus_none (first_position_of b)) (place_of b is 0 (zero_in b is) ∙ plus_none b.q)

  first_unit_in : (b : Block) → IsBlockButId night b → first_unit_of b < unit_total night
  first_unit_in b is = subst (λ (u : ℕ). u < unit_total night) (plus_none (first_unit_of b)) (unit_in b is 0 (zero_in b is))

  first_position_in : (b : Block) → IsBlockButId night b → first_position_of b < position_total night
  first_position_in b is = subst (λ (v : ℕ). v < position_total night) (plus_none (first_position_of b)) (position_in b is 0 (zero_in b is))

  leaves_first : (x y : Block) → IsBlockButId night x → IsBlockButId night y → (x.dep.0 < y.dep.0) ⊎ ((x.dep.0 ≡ y.dep.0) × (y.q + y.n ≤ x.q)) → LeavesFirst x y
  leaves_first x y a b (inl lt) = record {
    number = num.leaves (first_position_of x) (first_position_of y + (y.n - 1)) (first_position_in x a) (position_in y b (y.n - 1) (last y b))
        (inl (omega (arith, lt, first_train x a, train_of y b (y.n - 1) (last y b))));
    keys = by_train (goes x) (goes y) false x.dep.0 y.dep.0 (9 - x.q) (9 - y.q) x.id y.id (h.depart_rises x.dep.0 y.dep.0 _ (omega (arith, lt)) b.shape.within.dep) lt;
  }
  leaves_first x y a b (inr same) = record {
    number = num.leaves (first_position_of x) (first_position_of y + (y.n - 1)) (first_position_in x a) (position_in y b (y.n - 1) (last y b))
        (inr (first_train x a ∙ same.0 ∙ sym (train_of y b (y.n - 1) (last y b)), omega (arith, same.1, first_place x a, place_of y b (y.n - 1) (last y b), b.shape.within.n)));
    keys = by_place (goes x) (goes y) false x.dep.0 y.dep.0 (9 - x.q) (9 - y.q) x.id y.id (ap (λ (t : ℕ). (train_at night.depart t).minute) same.0) same.0
        (omega (arith, same.1, b.shape.within.n, small));
  }
    where
      small : x.q ≤ 8
      small = let t : IsTrain night.station (train_at night.depart x.dep.0) = h.timetable.depart.each x.dep.0 _ a.shape.within.dep in omega
          (arith, a.shape.within.positions, a.shape.within.n, t.few)

  leaves_either : (x y : Block) → IsBlockButId night x → IsBlockButId night y → AreApart night x y → LeavesFirst x y ⊎ LeavesFirst y x
  leaves_either x y a b apart = ⊎_elim
      (λ lt. inl (leaves_first x y a b (inl lt)))
      (λ ge. ⊎_elim
      (λ more. inr (leaves_first y x b a (inl more)))
      (λ le. let same : x.dep.0 ≡ y.dep.0 = omega (arith, ge, le) in
      let firsts = ap (λ (t : ℕ). unit_count (take t night.depart)) same in
      ⊎_elim
      (λ before. inr (leaves_first y x b a (inr (sym same, omega (arith, before, firsts, a.shape.within.q, b.shape.within.q)))))
      (λ behind. inl (leaves_first x y a b (inr (same, omega (arith, behind, firsts, a.shape.within.q, b.shape.within.q)))))
      (apart_runs (first_position_of x) (first_position_of y) x.n y.n a.shape.within.n b.shape.within.n apart.positions))
      (cases_lt y.dep.0 x.dep.0))
      (cases_lt x.dep.0 y.dep.0)

  -- the first entry of one and the first leave of the other
  first_there : (x y : Block) → IsBlockButId night x → IsBlockButId night y → comes y < goes x → entry (first_unit_of y) < leave (first_position_of x)
  first_there x y a b lt =
      subst (λ (u : ℕ). entry u < leave (first_position_of x)) (plus_none (first_unit_of y))
      (subst (λ (v : ℕ). entry (first_unit_of y + 0) < leave v) (plus_none (first_position_of x)) (while_there x y a b lt 0 0 (zero_in y b) (zero_in x a)))

  first_after : (x y : Block) → IsBlockButId night x → IsBlockButId night y → goes x ≤ comes y → leave (first_position_of x) < entry (first_unit_of y)
  first_after x y a b le =
      subst (λ (u : ℕ). leave (first_position_of x) < entry u) (plus_none (first_unit_of y))
      (subst (λ (v : ℕ). leave v < entry (first_unit_of y + 0)) (plus_none (first_position_of x)) (after_it x y a b le 0 0 (zero_in y b) (zero_in x a)))

  there_keys : (x y : Block) → comes y < goes x → Ordered (enter_key night y) (leave_key night x)
  there_keys x y lt = by_minute (comes y) (goes x) true false y.arr.0 x.dep.0 y.p (9 - x.q) y.id x.id lt

  after_keys : (x y : Block) → goes x ≤ comes y → Ordered (leave_key night x) (enter_key night y)
  after_keys x y le = by_kind (goes x) (comes y) x.dep.0 y.arr.0 (9 - x.q) y.p x.id y.id le

  -- ---- one block

  stays_long : (b : Block) → IsBlockButId night b → is_of stack b.park ≡ true → comes b < goes b
  stays_long b is of = ⊎_elim (λ lt. lt) (λ ge. absurd (less_not_more (sym formed.later ∙ (after_keys bare bare ge).more))) (cases_lt (comes b) (goes b))
    where
      bare : Block
      bare = record b { id = 0 }

      formed : IsWellFormed (stay (record b { id = 0 }))
      formed =
          let f = laws.formed night (record b { id = 0 }) i (is_within night (record b { id = 0 }) (record { shape = is.shape; option = is.option })) (omega arith) in
          subst (λ (o : Option Stay). IfSome o IsWellFormed) (has_stay (record b { id = 0 }) (record { shape = is.shape; option = is.option }) of) f

  pub is_span : (b : Block) → IsBlockButId night b → is_of stack b.park ≡ true → IsSpan (span_of night entry leave (λ x. pos 0) b)
  is_span b is of = record {
    enters = omega (arith, later_entry b is (b.n - 1) (last b is));
    stays = omega (arith, while_there b b is is (stays_long b is of) (b.n - 1) (b.n - 1) (last b is) (last b is));
    leaves = omega (arith, earlier_leave b is (b.n - 1) (last b is));
  }

  -- ---- two blocks

  first_inside : (x y : Block) → IsBlockButId night x → IsBlockButId night y → ComesFirst x y → entry (first_unit_of x + (x.n - 1)) < entry (first_unit_of y)
  first_inside x y a b c = num.entries (first_unit_of x + (x.n - 1)) (first_unit_of y) (omega (arith, c.units, a.shape.within.n)) (first_unit_in y b)

  half : (x y : Block) → IsBlockButId night x → IsBlockButId night y → AreApart night x y → ComesFirst x y → (Crosses (stay x) (stay y) → ⊥) → AreNested (span x) (span y)
  half x y a b apart c never = ⊎_elim
      (λ lt. ⊎_elim
      (λ l. absurd (never (record { track = refl; after = c.keys.less; during = (there_keys x y lt).less; blocked = inr (l.keys.less, refl) })))
      (λ l. inr (inr (omega (arith, first_inside x y a b c), omega (arith, l.number))))
      (leaves_either x y a b apart))
      (λ ge. inl (inl (omega (arith, first_after x y a b ge))))
      (cases_lt (comes y) (goes x))

  turned : (s t : Span) → AreNested s t → AreNested t s
  turned s t (inl (inl e)) = inl (inr e)
  turned s t (inl (inr e)) = inl (inl e)
  turned s t (inr (inl e)) = inr (inr e)
  turned s t (inr (inr e)) = inr (inl e)

  pub nested_from : (x y : Block) → IsBlockButId night x → IsBlockButId night y → AreApart night x y → (Crosses (stay x) (stay y) → ⊥) → (Crosses (stay y) (stay x) → ⊥)
      → AreNested (span_of night entry leave (λ z. pos 0) x) (span_of night entry leave (λ z. pos 0) y)
  nested_from x y a b apart never neither = ⊎_elim
      (λ c. half x y a b apart c never)
      (λ c. turned (span y) (span x) (half y x b a (record { units = λ u p q. apart.units u q p; positions = λ v p q. apart.positions v q p }) c neither))
      (comes_either x y a b apart)

  pub no_cross : (x y : Block) → IsBlockButId night x → IsBlockButId night y → AreApart night x y
      → AreNested (span_of night entry leave (λ z. pos 0) x) (span_of night entry leave (λ z. pos 0) y) → Crosses (stay x) (stay y) → ⊥
  no_cross x y a b apart nested k = ⊎_elim
      (λ c. ⊎_elim
      (λ lt. ⊎_elim (λ l. apart_numbers c lt l nested) (λ l. not_blocked l k.blocked) (leaves_either x y a b apart))
      (λ ge. less_not_more (sym k.during ∙ (after_keys x y ge).more))
      (cases_lt (comes y) (goes x)))
      (λ c. less_not_more (sym k.after ∙ c.keys.more))
      (comes_either x y a b apart)
    where
      not_blocked : LeavesFirst y x
          → (ComesBefore (leave_key night y) (leave_key night x) × (stack.side ≢ stack.side)) ⊎ (ComesBefore (leave_key night x) (leave_key night y) × (stack.side ≡ stack.side))
          → ⊥
      not_blocked l (inl h) = h.1 refl
      not_blocked l (inr h) = less_not_more (sym h.0 ∙ l.keys.more)

      apart_numbers : ComesFirst x y → comes y < goes x → LeavesFirst x y → AreNested (span x) (span y) → ⊥
      apart_numbers c lt l (inl (inl e)) = omega (arith, e, first_there x y a b lt)
      apart_numbers c lt l (inl (inr e)) = omega (
        arith,
        e,
        first_there x y a b lt,
        first_inside x y a b c,
        later_entry x a (x.n - 1) (last x a),
        l.number,
        earlier_leave y b (y.n - 1) (last y b),
      )
      apart_numbers c lt l (inr (inl e)) = omega (arith, e.0, first_inside x y a b c, later_entry x a (x.n - 1) (last x a), later_entry y b (y.n - 1) (last y b))
      apart_numbers c lt l (inr (inr e)) = omega (arith, e.1, l.number, earlier_leave x a (x.n - 1) (last x a), earlier_leave y b (y.n - 1) (last y b))

  pub not_itself : (x : Block) → Crosses (stay x) (stay x) → ⊥
  not_itself x k = not_before_itself (comes x) true x.arr.0 x.p x.id k.after

  -- blocks that share nothing come at different events
  pub not_one_entry : (x y : Block) → IsBlockButId night x → IsBlockButId night y → AreApart night x y → entry (first_unit_of x) ≡ entry (first_unit_of y) → ⊥
  not_one_entry x y a b apart e = ⊎_elim
      (λ c. omega (arith, e, first_inside x y a b c, later_entry x a (x.n - 1) (last x a)))
      (λ c. omega (arith, e, first_inside y x b a c, later_entry y b (y.n - 1) (last y b)))
      (comes_either x y a b apart)

  -- and at no event of another
  pub not_between : (x y : Block) → IsBlockButId night x → IsBlockButId night y → AreApart night x y → entry (first_unit_of x) < entry (first_unit_of y)
      → entry (first_unit_of y) < entry (first_unit_of x + (x.n - 1)) + 1 → ⊥
  not_between x y a b apart low high = ⊎_elim
      (λ c. omega (arith, high, first_inside x y a b c))
      (λ c. omega (arith, low, first_inside y x b a c, later_entry y b (y.n - 1) (last y b)))
      (comes_either x y a b apart)

  pub not_leaving : (x y : Block) → IsBlockButId night x → IsBlockButId night y → leave (first_position_of x + (x.n - 1)) ≤ entry (first_unit_of y)
      → entry (first_unit_of y) < leave (first_position_of x) + 1 → ⊥
  not_leaving x y a b low high = ⊎_elim
      (λ lt. let there = subst (λ (u : ℕ). entry u < leave (first_position_of x + (x.n - 1))) (plus_none (first_unit_of y))
      (while_there x y a b lt 0 (x.n - 1) (zero_in y b) (last x a)) in omega (arith, low, there))
      (λ ge. omega (arith, high, first_after x y a b ge))
      (cases_lt (comes y) (goes x))

  pub begins_in : (b : Block) → IsBlockButId night b → entry (first_unit_of b) < events
  begins_in b is = num.entries_in (first_unit_of b) (first_unit_in b is)

  pub ends_in : (b : Block) → IsBlockButId night b → leave (first_position_of b) + 1 ≤ events
  ends_in b is = let lt = num.leaves_in (first_position_of b) (first_position_in b is) in omega (arith, lt)

  -- the events of a block's units and positions lie between its first and its last
  unit_at_place : (b : Block) (u : ℕ) → has_unit night (shape_of b) u ≡ true → (k : ℕ) × (k < b.n) × (first_unit_of b + k ≡ u)
  unit_at_place b u has = let low = from_at b u has in let high = to_at b u has in (u - first_unit_of b, omega (arith, low, high), omega (arith, low))
    where
      from_at : (b : Block) (u : ℕ) → has_unit night (shape_of b) u ≡ true → first_unit_of b ≤ u
      from_at b u has = grind (arith, nat_tests)

      to_at : (b : Block) (u : ℕ) → has_unit night (shape_of b) u ≡ true → u < first_unit_of b + b.n
      to_at b u has = grind (arith, nat_tests)

  position_at_place : (b : Block) (v : ℕ) → has_position night (shape_of b) v ≡ true → (k : ℕ) × (k < b.n) × (first_position_of b + k ≡ v)
  position_at_place b v has = let low = from_at b v has in let high = to_at b v has in (v - first_position_of b, omega (arith, low, high), omega (arith, low))
    where
      from_at : (b : Block) (v : ℕ) → has_position night (shape_of b) v ≡ true → first_position_of b ≤ v
      from_at b v has = grind (arith, nat_tests)

      to_at : (b : Block) (v : ℕ) → has_position night (shape_of b) v ≡ true → v < first_position_of b + b.n
      to_at b v has = grind (arith, nat_tests)

  rises_to_last : (b : Block) → IsBlockButId night b → (k : ℕ) → k < b.n → entry (first_unit_of b + k) ≤ entry (first_unit_of b + (b.n - 1))
  rises_to_last b is k lt = ⊎_elim
      (λ less. let below = num.entries (first_unit_of b + k) (first_unit_of b + (b.n - 1)) (omega (arith, less)) (unit_in b is (b.n - 1) (last b is)) in omega (arith, below))
      (λ ge. let e : first_unit_of b + k ≡ first_unit_of b + (b.n - 1) = omega (arith, ge, lt) in let same = ap entry e in omega (arith, same))
      (cases_lt k (b.n - 1))

  falls_to_last : (b : Block) → IsBlockButId night b → (k : ℕ) → k < b.n → leave (first_position_of b + (b.n - 1)) ≤ leave (first_position_of b + k)
  falls_to_last b is k lt = ⊎_elim
      (λ less.
      let below = num.leaves (first_position_of b + (b.n - 1)) (first_position_of b + k) (position_in b is (b.n - 1) (last b is)) (position_in b is k lt)
      (inr (train_of b is (b.n - 1) (last b is) ∙ sym (train_of b is k lt), omega (arith, less, place_of b is (b.n - 1) (last b is), place_of b is k lt))) in
      omega (arith, below))
      (λ ge. let e : first_position_of b + (b.n - 1) ≡ first_position_of b + k = omega (arith, ge, lt) in let same = ap leave e in omega (arith, same))
      (cases_lt k (b.n - 1))

  pub unit_between : (b : Block) → IsBlockButId night b → (u : ℕ) → has_unit night (shape_of b) u ≡ true
      → (entry (first_unit_of b) ≤ entry u) × (entry u ≤ entry (first_unit_of b + (b.n - 1)))
  unit_between b is u has =
      let k = unit_at_place b u has in
      let same = ap entry k.2 in
      (omega (arith, same, later_entry b is k.0 k.1), omega (arith, same, rises_to_last b is k.0 k.1))

  pub position_between : (b : Block) → IsBlockButId night b → (v : ℕ) → has_position night (shape_of b) v ≡ true
      → (leave (first_position_of b + (b.n - 1)) ≤ leave v) × (leave v ≤ leave (first_position_of b))
  position_between b is v has =
      let k = position_at_place b v has in
      let same = ap leave k.2 in
      (omega (arith, same, falls_to_last b is k.0 k.1), omega (arith, same, earlier_leave b is k.0 k.1))

  stays_then : (b : Block) → IsBlockButId night b → is_of stack b.park ≡ true → entry (first_unit_of b + (b.n - 1)) < leave (first_position_of b + (b.n - 1))
  stays_then b is of = while_there b b is is (stays_long b is of) (b.n - 1) (b.n - 1) (last b is) (last b is)

  -- blocks whose spans are nested or apart share nothing
  half_apart : (x y : Block) → IsBlockButId night x → IsBlockButId night y → is_of stack x.park ≡ true → is_of stack y.park ≡ true
      → (IsEarlierSpan (span x) (span y)) ⊎ (IsInside (span y) (span x)) → AreApart night x y
  half_apart x y a b of on (inl before) = record {
    units = λ u p q. omega (arith, before, (unit_between x a u p).1, (unit_between y b u q).0, stays_then x a of, earlier_leave x a (x.n - 1) (last x a));
    positions = λ v p q. omega (arith, before, (position_between x a v p).1, (position_between y b v q).0, stays_then y b on, later_entry y b (y.n - 1) (last y b));
  }
  half_apart x y a b of on (inr inside) = record {
    units = λ u p q. omega (arith, inside.0, (unit_between x a u p).1, (unit_between y b u q).0);
    positions = λ v p q. omega (arith, inside.1, (position_between x a v p).0, (position_between y b v q).1);
  }

  turned_apart : (x y : Block) → AreApart night x y → AreApart night y x
  turned_apart x y k = record { units = λ u p q. k.units u q p; positions = λ v p q. k.positions v q p }

  pub apart_from : (x y : Block) → IsBlockButId night x → IsBlockButId night y → is_of stack x.park ≡ true → is_of stack y.park ≡ true
      → AreNested (span_of night entry leave (λ z. pos 0) x) (span_of night entry leave (λ z. pos 0) y) → AreApart night x y
  apart_from x y a b of on (inl (inl e)) = half_apart x y a b of on (inl e)
  apart_from x y a b of on (inl (inr e)) = turned_apart y x (half_apart y x b a on of (inl e))
  apart_from x y a b of on (inr (inl e)) = turned_apart y x (half_apart y x b a on of (inr e))
  apart_from x y a b of on (inr (inr e)) = half_apart x y a b of on (inr e)

  -- ---- who stands

  yes_le : (m n : ℕ) → m ≤ n → nat_le m n ≡ true
  yes_le m n le = grind (arith, nat_tests)

  no_le : (m n : ℕ) → n < m → nat_le m n ≡ false
  no_le m n lt = grind (arith, nat_tests)

  yes_lt : (m n : ℕ) → m < n → nat_lt m n ≡ true
  yes_lt m n lt = grind (arith, nat_tests)

  no_lt : (m n : ℕ) → n ≤ m → nat_lt m n ≡ false
  no_lt m n le = grind (arith, nat_tests)

  -- whether y has come when x comes
  come : (x y : Block) → IsBlockButId night x → IsBlockButId night y → AreApart night x y
      → nat_le (entry (first_unit_of y)) (entry (first_unit_of x)) ≡ is_le (key_cmp (enter_key night y) (enter_key night x))
  come x y a b apart = ⊎_elim
      (λ c. no_le (entry (first_unit_of y)) (entry (first_unit_of x)) (omega (arith, first_inside x y a b c, later_entry x a (x.n - 1) (last x a))) ∙ sym (ap is_le c.keys.more))
      (λ c. yes_le (entry (first_unit_of y)) (entry (first_unit_of x)) (omega (arith, first_inside y x b a c, later_entry y b (y.n - 1) (last y b))) ∙ sym (ap is_le c.keys.less))
      (comes_either x y a b apart)

  -- whether it hasn't left
  gone : (x y : Block) → IsBlockButId night x → IsBlockButId night y → nat_lt (entry (first_unit_of x)) (leave (first_position_of y) + 1)
      ≡ key_before (enter_key night x) (leave_key night y)
  gone x y a b = ⊎_elim
      (λ lt. yes_lt (entry (first_unit_of x)) (leave (first_position_of y) + 1) (omega (arith, first_there y x b a lt)) ∙ sym (ap is_lt (there_keys y x lt).less))
      (λ ge. no_lt (entry (first_unit_of x)) (leave (first_position_of y) + 1) (omega (arith, first_after y x b a ge)) ∙ sym (ap is_lt (after_keys y x ge).more))
      (cases_lt (comes x) (goes y))

  both_tests : (p q r s : Bool) → p ≡ q → r ≡ s → (p && r) ≡ ((stack.track.0 == stack.track.0) && (q && s))
  both_tests p q r s e f = ap (λ (t : Bool). t && r) e ∙ ap (λ (t : Bool). q && t) f ∙ sym (ap (λ (t : Bool). t && (q && s)) (eq-eqb stack.track.0 stack.track.0 refl))

  pub same_standing : (x y : Block) → IsBlockButId night x → IsBlockButId night y → AreApart night x y
      → is_standing (span_of night entry leave (λ z. pos 0) y) (span_of night entry leave (λ z. pos 0) x) ≡ stands_at stack.track.0 (enter_key night x) (stay y)
  same_standing x y a b apart = both_tests _ _ _ _ (come x y a b apart) (gone x y a b)

  pub own_standing : (x : Block) → IsBlockButId night x
      → is_standing (span_of night entry leave (λ z. pos 0) x) (span_of night entry leave (λ z. pos 0) x) ≡ stands_at stack.track.0 (enter_key night x) (stay x)
  own_standing x a = both_tests _ _ _ _ (yes_le (entry (first_unit_of x)) (entry (first_unit_of x)) (omega arith) ∙ sym (itself (comes x) true x.arr.0 x.p x.id)) (gone x x a a)
