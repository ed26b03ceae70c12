-- One block more on a path: gains of stacks fall, and bounds with stacks don't.
use Rattle.std.specs.Prelude.{All, cond, Option, Some, None, slice_index_or, ◌-ℤ◌, ◌≤ℤ◌}
use Rattle.std.specs.List.{AllZip}
use Rattle.std.proofs.Common.{◌≡◌, inl, inr, ℕ, true, List, [], ◌∷◌, ◌++◌, get_or, ℤ, pos, ◌+ℤ◌, refl, sym, subst, ap, ◌∙◌, arith}
use Rattle.std.proofs.lemmas.Int.{ints}
use Rattle.std.proofs.lemmas.List.Sums.{sum_by-cons}
use Rattle.std.proofs.lemmas.List.Elements.{All-append, All-cons, All-push, All-tail, filter-append}
use Rattle.shunt_lists.specs.defs.Members.{In}
use Rattle.shunt_lists.proofs.Members.{filter_yes, in_right, each_one, to_all as from_members}
use Rattle.shunt_lists.proofs.Lists.{append_one, all_one}
use Rattle.shunt_base.specs.declared.duals.Case.{Case}
use Rattle.shunt_instance.specs.defs.Instance.{Night, IsInstance}
use Rattle.shunt_blocks.specs.declared.records.Shape.{Shape}
use Rattle.shunt_blocks.specs.declared.records.Block.{Block}
use Rattle.shunt_blocks.specs.declared.records.Park.{Park}
use Rattle.shunt_blocks.specs.defs.Shapes.{shape_of, IsWithinTrains}
use Rattle.shunt_blocks.specs.defs.Lists.{has_unit, has_position, ShareNothing, RunsThrough, placed}
use Rattle.shunt_blocks.proofs.Held.{held}
use Rattle.shunt_choices.specs.defs.Paths.{masks_of}
use Rattle.shunt_choices.proofs.Given.{PlaceLaws}
use Rattle.shunt_choices.proofs.Masks.{unit_more, position_more}
use Rattle.shunt_prices.specs.defs.Sums.{sum_z}
use Rattle.shunt_prices.specs.defs.Limits.{case_at, from_of}
use Rattle.shunt_prices.specs.defs.Cases.{weight, duals_over}
use Rattle.shunt_prices.specs.defs.Bounds.{case_sum}
use Rattle.shunt_stacks.specs.defs.Stacks.{Stack, stacks, is_of, blocks_of, stack_of}
use Rattle.shunt_stacks.specs.defs.Fillings.{gain, IsFilling, IsStackGain}
use Rattle.shunt_stacks.specs.defs.Cases.{HoldsBesideStacks, StackCasesHold}
use Rattle.shunt_stacks.specs.defs.Bounds.{IsStackSum, IsFall, IsChoiceSum, IsStackBound, IsChoiceBound}
use Rattle.shunt_stacks.proofs.Parts.{IsPart, part_itself, part_filter, part_left, part_right, part_append, part_apart, part_within, part_runs, IsFreeAt, unit_bare, position_bare, free_from, is_block, free_before, joined_apart, PartLaw}
use Rattle.shunt_stacks.proofs.Owned.{is_of_tells, stack_there}
use Rattle.shunt_stacks.proofs.Filled.{one_gain}
use Rattle.shunt_stacks.proofs.Plans.{StepLaws}
use Rattle.shunt_blocks.proofs.Shapes.{position_to as position_test, unit_to as unit_test, is_within}
use Rattle.shunt_blocks.proofs.StaysOf.{alone_apart}

-- ---- cases still hold

abbrev block_with : Shape → Option Park → Block
block_with s park = record { id = 0; arr = s.arr; p = s.p; n = s.n; dep = s.dep; q = s.q; park = park }

pub still_hold : (places : PlaceLaws) (night : Night) (path : List Block) (b : Block) (cases : List Case) → StackCasesHold night path cases
    → StackCasesHold night (path ++ b ∷ []) cases
still_hold places night path b cases hold k d lt =
    record {
      holds = λ s park free own room. (hold k d lt).holds s park (free_before places night path (path ++ b ∷ []) (block_with s park) (part_left night path (b ∷ [])) free)
          own room;
    }

-- ---- sums of gains

abbrev AllGain : Night → List Block → Case → List Stack → List ℤ → Type 0
AllGain night path c ss gains = AllZip (IsStackGain night path c) ss gains

pub same_gains : (night : Night) (path : List Block) (c : Case) (ss : List Stack) (gs hs : List ℤ) → AllGain night path c ss gs → AllGain night path c ss hs
    → sum_z (λ z. z) gs ≡ sum_z (λ z. z) hs
same_gains night path c [] [] [] g h = refl
same_gains night path c [] [] (y ∷ hs) g h = absurd h
same_gains night path c [] (x ∷ gs) hs g h = absurd g
same_gains night path c (s ∷ ss) [] hs g h = absurd g
same_gains night path c (s ∷ ss) (x ∷ gs) [] g h = absurd h
same_gains night path c (s ∷ ss) (x ∷ gs) (y ∷ hs) g h = omega (arith, ints, one_gain night path c s x y g.0 h.0, same_gains night path c ss gs hs g.1 h.1)

-- a path has one sum with stacks in a case
pub one_sum : (night : Night) (path : List Block) (cases : List Case) (k : ℕ) (x y : ℤ) → IsStackSum night path cases k x → IsStackSum night path cases k y → x ≡ y
one_sum night path cases k x y g h =
    same x y (case_sum night path cases k) (sum_z (λ z. z) g.gains) (sum_z (λ z. z) h.gains) g.is h.is
    (same_gains night path (case_at cases k) (stacks night.station) g.gains h.gains g.are h.are)
  where
    same : (x y now a b : ℤ) → x ≡ now -ℤ a → y ≡ now -ℤ b → a ≡ b → x ≡ y
    same x y now a b e f g = omega (arith, ints, e, f, g)

-- ---- fillings

module _ (places : PlaceLaws) (law : PartLaw) (night : Night) (i : IsInstance night) (path : List Block) (b : Block) (within : All (IsWithinTrains night) path)
    (apart : ShareNothing night path) (free : IsFreeAt night path b) where
  abbrev longer : List Block
  longer = path ++ b ∷ []

  pub longer_apart : ShareNothing night (path ++ b ∷ [])
  longer_apart = joined_apart places night path path (b ∷ []) apart (all_one (IsFreeAt night path) b free) (alone_apart night b) (part_itself night path)

  pub longer_within : All (IsWithinTrains night) (path ++ b ∷ [])
  longer_within = All-push (IsWithinTrains night) path b within (is_within night b (is_block places night path b free))

  all_before : (filling : List Block) → All (IsFreeAt night longer) filling → All (IsFreeAt night path) filling
  all_before filling all k d lt = free_before places night path longer (get_or filling k d) (part_left night path (b ∷ [])) (all k d lt)

  -- with the block, a filling at the longer path is one at the shorter
  one_list : (stack : Stack) (filling : List Block) → is_of stack b.park ≡ true → blocks_of stack (path ++ b ∷ []) ++ filling ≡ blocks_of stack path ++ b ∷ filling
  one_list stack filling of =
      ap (λ (bs : List Block). bs ++ filling) (filter-append (λ (x : Block). is_of stack x.park) path (b ∷ [])
      ∙ ap (λ (bs : List Block). blocks_of stack path ++ bs) (filter_yes (λ (x : Block). is_of stack x.park) b [] of))
      ∙ sym (append_one (blocks_of stack path) b filling)

  pub with_block : (stack : Stack) (filling : List Block) → is_of stack b.park ≡ true → IsFilling night (path ++ b ∷ []) stack filling → IsFilling night path stack (b ∷ filling)
  with_block stack filling of fill = record {
    own = All-cons (λ (x : Block). is_of stack x.park ≡ true) b filling of fill.own;
    free = All-cons (IsFreeAt night path) b filling free (all_before filling fill.free);
    apart = joined_apart places night longer (b ∷ []) filling longer_apart fill.free fill.apart (part_right night path (b ∷ []));
    through = subst (λ (bs : List Block). RunsThrough night (placed bs)) (one_list stack filling of) fill.through;
  }

  -- and what is with the block a filling at the shorter path is one at the longer without it
  pub without_block : (stack : Stack) (filling : List Block) → is_of stack b.park ≡ true → IsFilling night path stack (b ∷ filling) → IsFilling night (path ++ b ∷ []) stack filling
  without_block stack filling of fill = record {
    own = All-tail (λ (x : Block). is_of stack x.park ≡ true) b filling fill.own;
    free = from_members (IsFreeAt night longer) filling still_free;
    apart = part_apart night filling (b ∷ filling) (part_right night (b ∷ []) filling) fill.apart;
    through = subst (λ (bs : List Block). RunsThrough night (placed bs)) (sym (one_list stack filling of)) fill.through;
  }
    where
      still_free : (x : Block) → In x filling → IsFreeAt night longer x
      still_free x there =
          let before = each_one (IsFreeAt night path) (b ∷ filling) x fill.free (inr there) in
          free_from places night longer x (is_block places night path x before)
          (λ w has. omega (
            arith,
            unit_more night path b w,
            unit_bare places night path x before w has,
            fill.apart.units w,
            sum_by-cons (λ (y : Block). cond (has_unit night (shape_of y) w) 1 0) b filling,
            held (λ (y : Block). has_unit night (shape_of y) w) filling x there (unit_test night x w has),
          ))
          (λ v has. omega (
            arith,
            position_more night path b v,
            position_bare places night path x before v has,
            fill.apart.positions v,
            sum_by-cons (λ (y : Block). cond (has_position night (shape_of y) v) 1 0) b filling,
            held (λ (y : Block). has_position night (shape_of y) v) filling x there (position_test night x v has),
          ))

  -- and so it is without the block
  pub shorter : (stack : Stack) (filling : List Block) → IsFilling night (path ++ b ∷ []) stack filling → IsFilling night path stack filling
  shorter stack filling fill = record {
    own = fill.own;
    free = all_before filling fill.free;
    apart = fill.apart;
    through = part_runs law night (blocks_of stack path ++ filling) (blocks_of stack longer ++ filling) i whole_within whole_apart
        (part_append night (blocks_of stack path) filling (blocks_of stack longer) filling less (part_itself night filling)) fill.through;
  }
    where
      less : IsPart night (blocks_of stack path) (blocks_of stack longer)
      less = subst (IsPart night (blocks_of stack path)) (sym (filter-append (λ (x : Block). is_of stack x.park) path (b ∷ [])))
          (part_left night (blocks_of stack path) (blocks_of stack (b ∷ [])))

      whole_apart : ShareNothing night (blocks_of stack longer ++ filling)
      whole_apart = joined_apart places night longer (blocks_of stack longer) filling longer_apart fill.free fill.apart
          (part_filter night (λ (x : Block). is_of stack x.park) longer)

      whole_within : All (IsWithinTrains night) (blocks_of stack longer ++ filling)
      whole_within =
          All-append (IsWithinTrains night) (blocks_of stack longer) filling (part_within night (IsWithinTrains night) (blocks_of stack longer) longer
          (part_filter night (λ (x : Block). is_of stack x.park) longer) longer_within)
          (λ k d lt. is_within night (get_or filling k d) (is_block places night longer (get_or filling k d) (fill.free k d lt)))

  -- ---- gains

  pub gain_falls : (c : Case) (stack : Stack) (before after : ℤ) → IsStackGain night path c stack before → IsStackGain night (path ++ b ∷ []) c stack after → after ≤ℤ before
  gain_falls c stack before after g h = omega (arith, ints, h.has, g.no_more h.filling (shorter stack h.filling h.fills))

  pub own_falls : (c : Case) (stack : Stack) (before after : ℤ) → is_of stack b.park ≡ true → IsStackGain night path c stack before
      → IsStackGain night (path ++ b ∷ []) c stack after → (gain night c b +ℤ after) ≤ℤ before
  own_falls c stack before after of g h = omega (arith, ints, h.has, g.no_more (b ∷ h.filling) (with_block stack h.filling of h.fills))

  pub gains_fall : (c : Case) (ss : List Stack) (gs hs : List ℤ) → AllGain night path c ss gs → AllGain night (path ++ b ∷ []) c ss hs → sum_z (λ z. z) hs ≤ℤ sum_z (λ z. z) gs
  gains_fall c [] [] [] g h = omega (arith, ints)
  gains_fall c [] [] (y ∷ hs) g h = absurd h
  gains_fall c [] (x ∷ gs) hs g h = absurd g
  gains_fall c (s ∷ ss) [] hs g h = absurd g
  gains_fall c (s ∷ ss) (x ∷ gs) [] g h = absurd h
  gains_fall c (s ∷ ss) (x ∷ gs) (y ∷ hs) g h = omega (arith, ints, gain_falls c s x y g.0 h.0, gains_fall c ss gs hs g.1 h.1)

  -- all gains fall by as much as one of them at least
  pub own_among : (c : Case) (own : Stack) (before after : ℤ) → IsStackGain night path c own before → IsStackGain night (path ++ b ∷ []) c own after
      → (ss : List Stack) (gs hs : List ℤ) → In own ss → AllGain night path c ss gs → AllGain night (path ++ b ∷ []) c ss hs
      → (before -ℤ after) ≤ℤ (sum_z (λ z. z) gs -ℤ sum_z (λ z. z) hs)
  own_among c own before after was now [] gs hs there g h = absurd there
  own_among c own before after was now (s ∷ ss) [] hs there g h = absurd g
  own_among c own before after was now (s ∷ ss) (x ∷ gs) [] there g h = absurd h
  own_among c own before after was now (s ∷ ss) (x ∷ gs) (y ∷ hs) (inl e) g h =
      omega (
        arith,
        ints,
        one_gain night path c own before x was (subst (λ (t : Stack). IsStackGain night path c t x) (sym e) g.0),
        one_gain night longer c own after y now (subst (λ (t : Stack). IsStackGain night longer c t y) (sym e) h.0),
        gains_fall c ss gs hs g.1 h.1,
      )
  own_among c own before after was now (s ∷ ss) (x ∷ gs) (y ∷ hs) (inr later) g h =
      omega (arith, ints, gain_falls c s x y g.0 h.0, own_among c own before after was now ss gs hs later g.1 h.1)

-- ---- bounds

module _ (laws : StepLaws) (night : Night) (i : IsInstance night) (path : List Block) (b : Block) (within : All (IsWithinTrains night) path) (apart : ShareNothing night path)
    (free : IsFreeAt night path b) where
  -- a block of no stack gains nothing, where the longer path's run goes through
  alone_low : (c : Case) → RunsThrough night (placed (path ++ b ∷ [])) → HoldsBesideStacks night (masks_of night path) c → stack_of b.park ≡ None → gain night c b ≤ℤ pos 0
  alone_low c go hold e =
      let room = laws.room night (path ++ b ∷ []) b i (longer_within laws.places laws.part night i path b within apart free)
      (longer_apart laws.places laws.part night i path b within apart free) go (in_right path (b ∷ []) b (inl refl)) (is_block laws.places night path b free) in
      omega (arith, ints, hold.holds (shape_of b) b.park free e room)

  choice_rises : (cases : List Case) (k : ℕ) (x y : ℤ) → RunsThrough night (placed (path ++ b ∷ [])) → HoldsBesideStacks night (masks_of night path) (case_at cases k)
      → IsStackSum night path cases k x → IsChoiceSum night path b cases k y → x ≤ℤ y
  choice_rises cases k x y go hold s t = by_stack (stack_of b.park) refl t.is_fall
    where
      by_stack : (o : Option Stack) → stack_of b.park ≡ o → IsFall night path b (case_at cases k) o t.fall → x ≤ℤ y
      by_stack None e fall = omega (arith, ints, t.is, fall, one_sum night path cases k x t.whole s t.is_whole, alone_low (case_at cases k) go hold e)
      by_stack (Some own) e fall =
          omega (
            arith,
            ints,
            t.is,
            fall.4,
            one_sum night path cases k x t.whole s t.is_whole,
            own_falls laws.places laws.part night i path b within apart free (case_at cases k) own fall.0 fall.1 ((is_of_tells own b.park).1 e) fall.2 fall.3,
          )

  pub longer_rises : (cases : List Case) (k : ℕ) (x y : ℤ) → IsChoiceSum night path b cases k x → IsStackSum night (path ++ b ∷ []) cases k y → x ≤ℤ y
  longer_rises cases k x y s t = by_stack (stack_of b.park) refl s.is_fall
    where
      step : case_sum night (path ++ b ∷ []) cases k ≡ case_sum night path cases k -ℤ gain night (case_at cases k) b
      step = turned _ _ (weight night (case_at cases k) b) (duals_over night (case_at cases k).duals (shape_of b)) (laws.sum night path b (from_of cases k) (case_at cases k) free)
        where
          turned : (then now w d : ℤ) → then ≡ now +ℤ (w -ℤ d) → then ≡ now -ℤ (d -ℤ w)
          turned then now w d e = omega (arith, ints, e)

      higher : (x y whole fall own now then gs hs : ℤ) → x ≡ whole +ℤ fall -ℤ own → whole ≡ now -ℤ gs → y ≡ then -ℤ hs → then ≡ now -ℤ own → fall ≤ℤ (gs -ℤ hs) → x ≤ℤ y
      higher x y whole fall own now then gs hs e f g h le = omega (arith, ints, e, f, g, h, le)

      done : s.fall ≤ℤ (sum_z (λ z. z) s.is_whole.gains -ℤ sum_z (λ z. z) t.gains) → x ≤ℤ y
      done le =
          higher x y s.whole s.fall (gain night (case_at cases k) b) (case_sum night path cases k) (case_sum night (path ++ b ∷ []) cases k) (sum_z (λ z. z) s.is_whole.gains)
          (sum_z (λ z. z) t.gains) s.is s.is_whole.is t.is step le

      by_stack : (o : Option Stack) → stack_of b.park ≡ o → IsFall night path b (case_at cases k) o s.fall → x ≤ℤ y
      by_stack None e fall =
          done (omega (
            arith,
            ints,
            fall,
            gains_fall laws.places laws.part night i path b within apart free (case_at cases k)
                (stacks night.station) s.is_whole.gains t.gains s.is_whole.are t.are,
          ))
      by_stack (Some own) e fall =
          let of = (is_of_tells own b.park).1 e in
          let there = stack_there night (laws.station night i) (shape_of b) b.park own free.option of in
          done (omega (
            arith,
            ints,
            fall.4,
            own_among laws.places laws.part night i path b within apart free (case_at cases k) own fall.0 fall.1 fall.2 fall.3
                (stacks night.station) s.is_whole.gains t.gains there s.is_whole.are t.are,
          ))

  pub path_to_choice : (cases : List Case) (x y : ℤ) → RunsThrough night (placed (path ++ b ∷ [])) → StackCasesHold night path cases → IsStackBound night path cases x
      → IsChoiceBound night path b cases y → x ≤ℤ y
  path_to_choice cases x y go hold now then =
      let k = then.least.number in
      let there = then.least.opens in
      let opens = laws.opens cases path b k there in
      let own = laws.there (slice_index_or now.sums k (pos 0)) in
      let low = now.least.least k own.0 opens own.1 in
      let high = laws.rise (slice_index_or now.sums k (pos 0)) (slice_index_or then.sums k (pos 0)) own.0 y
      (choice_rises cases k _ _ go (hold k _ there.there) (now.are k opens) (then.are k there)) own.1 then.least.is in
      omega (arith, ints, low, high)

  pub choice_to_longer : (cases : List Case) (x y : ℤ) → IsChoiceBound night path b cases x → IsStackBound night (path ++ b ∷ []) cases y → x ≤ℤ y
  choice_to_longer cases x y now then =
      let k = then.least.number in
      let there = then.least.opens in
      let own = laws.there (slice_index_or now.sums k (pos 0)) in
      let low = now.least.least k own.0 there own.1 in
      let high = laws.rise (slice_index_or now.sums k (pos 0)) (slice_index_or then.sums k (pos 0)) own.0 y
      (longer_rises cases k _ _ (now.are k there) (then.are k there)) own.1 then.least.is in
      omega (arith, ints, low, high)
