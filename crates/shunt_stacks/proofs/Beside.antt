-- Free blocks and spans at a path with one block more.
use Rattle.std.specs.Prelude.{Option, Some, None, ◌&&◌, nat_le, nat_lt, not, cond, map, All}
use Rattle.std.proofs.Common.{◌≡◌, ◌⊎◌, ⊎_elim, inl, inr, ℕ, ◌+◌, ◌-◌, ◌<◌, ◌≤◌, Bool, true, false, List, [], ◌∷◌, ◌++◌, ℤ, pos, refl, sym, subst, ap, ◌∙◌, arith}
use Rattle.std.proofs.lemmas.Bool.{cases_Bool, cases_lt, not-true, true≢false}
use Rattle.std.proofs.lemmas.Bool.Decides.{nat_tests}
use Rattle.std.proofs.lemmas.List.{map-append}
use Rattle.std.proofs.lemmas.List.Elements.{All-push, filter-append}
use Rattle.shunt_lists.specs.defs.Members.{In}
use Rattle.shunt_lists.proofs.Members.{in_map, of_map, in_left, in_right, in_cases, filter_from, filter_to, filter_yes, each_one, to_all as from_members}
use Rattle.shunt_lists.proofs.Lists.{all_one}
use Rattle.shunt_base.specs.declared.duals.Case.{Case}
use Rattle.shunt_instance.specs.defs.Instance.{Night, IsInstance}
use Rattle.shunt_blocks.specs.declared.records.Block.{Block}
use Rattle.shunt_blocks.specs.defs.Shapes.{shape_of, unit_from, position_from}
use Rattle.shunt_blocks.specs.defs.Blocks.{IsBlockButId}
use Rattle.shunt_blocks.specs.defs.Lists.{has_unit, has_position, times_unit, times_position, ShareNothing}
use Rattle.shunt_choices.proofs.Given.{PlaceLaws}
use Rattle.shunt_choices.proofs.Masks.{unit_more, position_more}
use Rattle.shunt_stacks.specs.defs.Stacks.{Stack, is_of, blocks_of}
use Rattle.shunt_stacks.specs.defs.Fillings.{gain}
use Rattle.shunt_stacks.specs.defs.Spans.{Span, IsSpan, AgreeWithin, IsOutside, AreOwn, plus, best, best_with}
use Rattle.shunt_stacks.specs.defs.Numbers.{IsNumbering, span_of, fixed_spans, free_spans, AreFreeOf, meet, shares, apart_of}
use Rattle.shunt_stacks.proofs.Parts.{part_itself, part_left, joined_apart, IsFreeAt, is_block, unit_bare, position_bare, free_from, free_before}
use Rattle.shunt_stacks.proofs.Around.{at_fixed, agreeing}
use Rattle.shunt_stacks.proofs.Tied.{TieLaws, own_events}
use Rattle.shunt_stacks.proofs.Pairs.{EventLaws, is_span, unit_between, position_between}
use Rattle.shunt_lists.proofs.Tests.{first_true as or_left, second_true as or_right, or_cases}
use Rattle.shunt_blocks.proofs.Shapes.{has_from, has_position_from, position_to as position_test, unit_to as unit_test}
use Rattle.shunt_blocks.proofs.StaysOf.{alone_apart}

-- ---- what two blocks share

meets : (a n b m u : ℕ) → (nat_le a u && nat_lt u (a + n)) ≡ true → (nat_le b u && nat_lt u (b + m)) ≡ true → meet a n b m ≡ true
meets a n b m u p q = grind (arith, nat_tests)

common : (a n b m : ℕ) → 1 ≤ n → 1 ≤ m → meet a n b m ≡ true → (u : ℕ) × ((nat_le a u && nat_lt u (a + n)) ≡ true) × ((nat_le b u && nat_lt u (b + m)) ≡ true)
common a n b m some more e = ⊎_elim (λ lt. (b, first lt, own b m more)) (λ ge. (a, own a n some, second ge)) (cases_lt a b)
  where
    own : (c k : ℕ) → 1 ≤ k → (nat_le c c && nat_lt c (c + k)) ≡ true
    own c k le = grind (arith, nat_tests)

    first : a < b → (nat_le a b && nat_lt b (a + n)) ≡ true
    first lt = grind (arith, nat_tests)

    second : b ≤ a → (nat_le b a && nat_lt a (b + m)) ≡ true
    second le = grind (arith, nat_tests)

-- two blocks that share something share a unit or a position
record Shared (night : Night) (x y : Block) : Type 0 where
  one : ((u : ℕ) × (has_unit night (shape_of x) u ≡ true) × (has_unit night (shape_of y) u ≡ true))
      ⊎ ((v : ℕ) × (has_position night (shape_of x) v ≡ true) × (has_position night (shape_of y) v ≡ true))

shared : (night : Night) (x y : Block) → IsBlockButId night x → IsBlockButId night y → shares night x y ≡ true → Shared night x y
shared night x y a b e = record {
  one = ⊎_elim
      (λ h. inl (common (unit_from night (shape_of x)) x.n (unit_from night (shape_of y)) y.n a.shape.within.n b.shape.within.n h))
      (λ h. inr (common (position_from night (shape_of x)) x.n (position_from night (shape_of y)) y.n a.shape.within.n b.shape.within.n h))
      (or_cases (meet (unit_from night (shape_of x)) x.n (unit_from night (shape_of y)) y.n)
      (meet (position_from night (shape_of x)) x.n (position_from night (shape_of y)) y.n) e);
}

-- and where they don't, they share neither
no_unit : (night : Night) (x y : Block) (u : ℕ) → shares night x y ≡ false → has_unit night (shape_of x) u ≡ true → has_unit night (shape_of y) u ≡ true → ⊥
no_unit night x y u e p q =
    true≢false (sym (or_left (meet (unit_from night (shape_of x)) x.n (unit_from night (shape_of y)) y.n)
    (meet (position_from night (shape_of x)) x.n (position_from night (shape_of y)) y.n)
    (meets (unit_from night (shape_of x)) x.n (unit_from night (shape_of y)) y.n u p q)) ∙ e)

no_position : (night : Night) (x y : Block) (v : ℕ) → shares night x y ≡ false → has_position night (shape_of x) v ≡ true → has_position night (shape_of y) v ≡ true → ⊥
no_position night x y v e p q =
    true≢false (sym (or_right (meet (unit_from night (shape_of x)) x.n (unit_from night (shape_of y)) y.n)
    (meet (position_from night (shape_of x)) x.n (position_from night (shape_of y)) y.n)
    (meets (position_from night (shape_of x)) x.n (position_from night (shape_of y)) y.n v p q)) ∙ e)

-- ---- free blocks

none_of : (t : Bool) (now then : ℕ) → now ≡ then + cond t 1 0 → then ≡ 0 → (t ≡ true → ⊥) → now ≡ 0
none_of true now then e zero never = absurd (never refl)
none_of false now then e zero never = omega (arith, e, zero)

some_of : (t : Bool) (now then : ℕ) → now ≡ then + cond t 1 0 → now ≡ 0 → t ≡ true → ⊥
some_of true now then e zero on = omega (arith, e, zero)
some_of false now then e zero on = true≢false (sym on)

module _ (places : PlaceLaws) (night : Night) (path : List Block) (b : Block) (free : IsFreeAt night path b) where
  abbrev longer : List Block
  longer = path ++ b ∷ []

  b_is : IsBlockButId night b
  b_is = is_block places night path b free

  still_free : (x : Block) → IsFreeAt night path x → shares night b x ≡ false → IsFreeAt night longer x
  still_free x before off = free_from places night longer x (is_block places night path x before)
      (λ w h. none_of (has_unit night (shape_of b) w) (times_unit night longer w) (times_unit night path w) (unit_more night path b w) (unit_bare places night path x before w h)
      (λ on. no_unit night b x w off on (unit_test night x w h)))
      (λ v h. none_of (has_position night (shape_of b) v) (times_position night longer v) (times_position night path v) (position_more night path b v)
      (position_bare places night path x before v h) (λ on. no_position night b x v off on (position_test night x v h)))

  -- what is free there shares nothing with the block
  shares_none : (x : Block) → IsFreeAt night longer x → shares night b x ≡ false
  shares_none x after = ⊎_elim (λ on. absurd (never (shared night b x b_is (is_block places night longer x after) on))) (λ off. off) (cases_Bool (shares night b x))
    where
      never : Shared night b x → ⊥
      never h = ⊎_elim
          (λ u. some_of (has_unit night (shape_of b) u.0) (times_unit night longer u.0) (times_unit night path u.0) (unit_more night path b u.0)
          (unit_bare places night longer x after u.0 (has_from night x u.0 u.2)) u.1)
          (λ v. some_of (has_position night (shape_of b) v.0) (times_position night longer v.0) (times_position night path v.0) (position_more night path b v.0)
          (position_bare places night longer x after v.0 (has_position_from night x v.0 v.2)) v.1)
          h.one

  pub lists_of_longer : (c : Case) (stack : Stack) (blocks : List Block) → AreFreeOf night path c stack blocks → AreFreeOf night (path ++ b ∷ []) c stack (apart_of night b blocks)
  lists_of_longer c stack blocks are = record {
    own = from_members (λ (x : Block). is_of stack x.park ≡ true) (apart_of night b blocks)
        (λ x j. each_one (λ (y : Block). is_of stack y.park ≡ true) blocks x are.own (inside x j).0);
    free = from_members (IsFreeAt night longer) (apart_of night b blocks) (λ x j. let h = inside x j in still_free x (each_one (IsFreeAt night path) blocks x are.free h.0)
        (not-true _ h.1));
    every = λ x of after gains room.
        let other = are.every x of (free_before places night path longer x (part_left night path (b ∷ [])) after) gains room in
        let off : shares night b other.0 ≡ false = sym (ap (λ (y : Block). shares night b y) other.2) ∙ shares_none x after in
        (other.0, filter_to (λ (y : Block). not (shares night b y)) blocks other.0 other.1 (ap not off), other.2);
  }
    where
      inside : (x : Block) → In x (apart_of night b blocks) → In x blocks × (not (shares night b x) ≡ true)
      inside x j = filter_from (λ (y : Block). not (shares night b y)) blocks x j

-- ---- spans

module _ (laws : EventLaws) (night : Night) (i : IsInstance night) (stack : Stack) (events : ℕ) (entry leave : ℕ → ℕ) (num : IsNumbering night events entry leave)
    (path : List Block) (b : Block) (free : IsFreeAt night path b) (of : is_of stack b.park ≡ true) (c : Case) (blocks : List Block) (are : AreFreeOf night path c stack blocks)
    (x y : ℕ) (out : IsOutside x y (span_of night entry leave (λ z. pos 0) b)) where
  abbrev own_span : Span
  own_span = span_of night entry leave (λ z. pos 0) b

  block_is : IsBlockButId night b
  block_is = is_block laws.places night path b free

  own_is : IsSpan (span_of night entry leave (λ z. pos 0) b)
  own_is = is_span laws night i stack events entry leave num b block_is of

  -- the block itself doesn't come there
  not_there : x ≤ entry (unit_from night (shape_of b)) → entry (unit_from night (shape_of b)) < y → ⊥
  not_there low high = ⊎_elim
      (λ before. omega (arith, before, high))
      (λ rest. ⊎_elim (λ inside. omega (arith, inside.0, low, own_is.enters)) (λ behind. omega (arith, behind, low, own_is.enters, own_is.stays, own_is.leaves)) rest)
      out

  -- an event of the block isn't there
  not_its_entry : (e : ℕ) → own_span.from ≤ e → e < own_span.inside → x ≤ e → e < y → ⊥
  not_its_entry e from to low high = ⊎_elim
      (λ before. omega (arith, before, from, high))
      (λ rest. ⊎_elim (λ inside. omega (arith, inside.0, low, to)) (λ behind. omega (arith, behind, low, to, own_is.stays, own_is.leaves)) rest)
      out

  not_its_leave : (e : ℕ) → own_span.until ≤ e → e < own_span.past → x ≤ e → e < y → ⊥
  not_its_leave e from to low high = ⊎_elim
      (λ before. omega (arith, before, from, high, own_is.enters, own_is.stays))
      (λ rest. ⊎_elim (λ inside. omega (arith, inside.1, from, high)) (λ behind. omega (arith, behind, low, to)) rest)
      out

  -- a block that lies there shares nothing with it
  lies_apart : (z : Block) → In z blocks → x ≤ entry (unit_from night (shape_of z)) → leave (position_from night (shape_of z)) + 1 ≤ y → shares night b z ≡ false
  lies_apart z j low high = ⊎_elim (λ on. absurd (never (shared night b z block_is z_is on))) (λ off. off) (cases_Bool (shares night b z))
    where
      z_is : IsBlockButId night z
      z_is = is_block laws.places night path z (each_one (IsFreeAt night path) blocks z are.free j)

      z_span : IsSpan (span_of night entry leave (λ w. pos 0) z)
      z_span = is_span laws night i stack events entry leave num z z_is (each_one (λ (w : Block). is_of stack w.park ≡ true) blocks z are.own j)

      never : Shared night b z → ⊥
      never h = ⊎_elim
          (λ u.
          let mine = unit_between laws night i stack events entry leave num b block_is u.0 u.1 in
          let other = unit_between laws night i stack events entry leave num z z_is u.0 u.2 in
          not_its_entry (entry u.0) mine.0 (omega (arith, mine.1)) (omega (arith, low, other.0)) (omega (arith, high, other.1, z_span.stays, z_span.leaves)))
          (λ v.
          let mine = position_between laws night i stack events entry leave num b block_is v.0 v.1 in
          let other = position_between laws night i stack events entry leave num z z_is v.0 v.2 in
          not_its_leave (leave v.0) mine.0 (omega (arith, mine.1)) (omega (arith, low, other.0, z_span.enters, z_span.stays)) (omega (arith, high, other.1)))
          h.one

  abbrev fixed : List Span
  fixed = fixed_spans night entry leave (blocks_of stack path)

  abbrev others : List Span
  others = fixed_spans night entry leave (blocks_of stack (path ++ b ∷ []))

  others_are : others ≡ fixed ++ own_span ∷ []
  others_are =
      ap (λ (bs : List Block). map (span_of night entry leave (λ z. pos 0)) bs)
      (filter-append (λ (z : Block). is_of stack z.park) path (b ∷ []) ∙ ap (λ (bs : List Block). blocks_of stack path ++ bs)
      (filter_yes (λ (z : Block). is_of stack z.park) b [] of))
      ∙ map-append (span_of night entry leave (λ z. pos 0)) (blocks_of stack path) (b ∷ [])

  to_others : (s : Span) → In s fixed → In s others
  to_others s j = subst (λ (ss : List Span). In s ss) (sym others_are) (in_left fixed (own_span ∷ []) s j)

  of_others : (s : Span) → In s others → In s fixed ⊎ (s ≡ own_span)
  of_others s j = ⊎_elim (λ l. inl l) (λ r. ⊎_elim (λ e. inr e) (λ none. absurd none) r) (in_cases fixed (own_span ∷ []) s (subst (λ (ss : List Span). In s ss) others_are j))

  abbrev frees : List Span
  frees = free_spans night entry leave c blocks

  abbrev more : List Span
  more = free_spans night entry leave c (apart_of night b blocks)

  to_more : (s : Span) → x ≤ s.from → s.past ≤ y → In s frees → In s more
  to_more s low high j =
      let z = of_map (span_of night entry leave (gain night c)) blocks s j in
      let s_from = ap (λ (t : Span). t.from) z.2 in
      let s_past = ap (λ (t : Span). t.past) z.2 in
      let off = lies_apart z.0 z.1 (omega (arith, low, s_from)) (omega (arith, high, s_past)) in
      subst (λ (t : Span). In t more) (sym z.2) (in_map (span_of night entry leave (gain night c)) (apart_of night b blocks) z.0
      (filter_to (λ (w : Block). not (shares night b w)) blocks z.0 z.1 (ap not off)))

  of_more : (s : Span) → In s more → In s frees
  of_more s j =
      let z = of_map (span_of night entry leave (gain night c)) (apart_of night b blocks) s j in
      subst (λ (t : Span). In t frees) (sym z.2) (in_map (span_of night entry leave (gain night c)) blocks z.0
      (filter_from (λ (w : Block). not (shares night b w)) blocks z.0 z.1).0)

  pub agree : AgreeWithin (fixed_spans night entry leave (blocks_of stack path)) (free_spans night entry leave c blocks)
      (fixed_spans night entry leave (blocks_of stack (path ++ b ∷ []))) (free_spans night entry leave c (apart_of night b blocks)) x y
  agree = record {
    members = λ s low high. (
      λ j. ⊎_elim (λ l. inl (to_others s l)) (λ r. inr (to_more s low high r)) j,
      λ j. ⊎_elim
          (λ l. ⊎_elim (λ k. inl k) (λ e. absurd (itself s low high e)) (of_others s l))
          (λ r. inr (of_more s r))
          j,
    );
    same = λ s low high. (
      λ j. to_others s j,
      λ j. ⊎_elim (λ k. k) (λ e. let from = ap (λ (t : Span). t.from) e in absurd (not_there (omega (arith, low, from)) (omega (arith, high, from)))) (of_others s j),
    );
  }
    where
      itself : (s : Span) → x ≤ s.from → s.past ≤ y → s ≡ own_span → ⊥
      itself s low high e =
          let from = ap (λ (t : Span). t.from) e in
          let past = ap (λ (t : Span). t.past) e in
          not_there (omega (arith, low, from)) (omega (arith, high, past, own_is.enters, own_is.stays, own_is.leaves))

-- ---- the value where the block comes

module _ (laws : TieLaws) (night : Night) (i : IsInstance night) (stack : Stack) (events : ℕ) (entry leave : ℕ → ℕ) (num : IsNumbering night events entry leave)
    (path : List Block) (all : All (IsBlockButId night) path) (apart : ShareNothing night path) (b : Block) (free : IsFreeAt night path b) (of : is_of stack b.park ≡ true)
    (c : Case) (blocks : List Block) (are : AreFreeOf night path c stack blocks) where
  abbrev block_span : Span
  block_span = span_of night entry leave (λ z. pos 0) b

  abbrev pub before : List Span
  before = fixed_spans night entry leave (blocks_of stack path)

  abbrev pub after : List Span
  after = fixed_spans night entry leave (blocks_of stack (path ++ b ∷ []))

  abbrev pub before_free : List Span
  before_free = free_spans night entry leave c blocks

  abbrev pub after_free : List Span
  after_free = free_spans night entry leave c (apart_of night b blocks)

  is_there : IsBlockButId night b
  is_there = is_block laws.places night path b free

  pub own_before : AreOwn before before_free
  own_before = own_events laws night i stack events entry leave num path all apart c blocks are

  longer_all : All (IsBlockButId night) (path ++ b ∷ [])
  longer_all = All-push (IsBlockButId night) path b all is_there

  longer_apart : ShareNothing night (path ++ b ∷ [])
  longer_apart = joined_apart laws.places night path path (b ∷ []) apart (all_one (IsFreeAt night path) b free) (alone_apart night b) (part_itself night path)

  pub own_after : AreOwn after after_free
  own_after =
      own_events laws night i stack events entry leave num (path ++ b ∷ []) longer_all longer_apart c (apart_of night b blocks)
      (lists_of_longer laws.places night path b free c stack blocks are)

  pub span_there : IsSpan (span_of night entry leave (λ z. pos 0) b)
  span_there = is_span laws.lists.events night i stack events entry leave num b is_there of

  pub same_among : (n x z r : ℕ) → z ≤ x + n → IsOutside x z (span_of night entry leave (λ w. pos 0) b) → best n after after_free x z r ≡ best n before before_free x z r
  same_among n x z r few out =
      sym (agreeing before before_free after after_free own_before own_after n x z r few
      (agree laws.lists.events night i stack events entry leave num path b free of c blocks are x z out))

  module _ (n y room : ℕ) (past : leave (position_from night (shape_of b)) + 1 ≤ y) (le : y ≤ entry (unit_from night (shape_of b)) + n) where
    abbrev test : Bool
    test = nat_le block_span.past y && nat_le block_span.length room

    pub value_at : best n (fixed_spans night entry leave (blocks_of stack (path ++ b ∷ []))) (free_spans night entry leave c (apart_of night b blocks))
        (entry (unit_from night (shape_of b))) y room
        ≡ best_with (best n (fixed_spans night entry leave (blocks_of stack path)) (free_spans night entry leave c blocks)) y room (span_of night entry leave (λ z. pos 0) b)
    value_at =
        at_fixed after after_free own_after n (entry (unit_from night (shape_of b))) y room block_span
        (in_map (span_of night entry leave (λ z. pos 0)) (blocks_of stack (path ++ b ∷ [])) b
        (filter_to (λ (x : Block). is_of stack x.park) (path ++ b ∷ []) b (in_right path (b ∷ []) b (inl refl)) of))
        refl (omega (arith, past, span_there.enters, span_there.stays, span_there.leaves)) le
        ∙ ap (λ (o : Option ℤ). cond test (plus (Some (pos 0)) (plus o (best n after after_free block_span.past y room))) None)
        (same_among n block_span.inside block_span.until (room - block_span.length) (omega (arith, past, le, span_there.enters, span_there.leaves))
        (inr (inl (omega arith, omega arith))))
        ∙ ap (λ (o : Option ℤ). cond test (plus (Some (pos 0)) (plus (best n before before_free block_span.inside block_span.until (room - block_span.length)) o)) None)
        (same_among n block_span.past y room (omega (arith, le, span_there.enters, span_there.stays, span_there.leaves)) (inr (inr (omega arith))))
