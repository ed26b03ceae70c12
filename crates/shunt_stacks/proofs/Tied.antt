-- Fillings of a stack are nests of spans, and its gain is the greatest gain of nests.
use Rattle.std.specs.Prelude.{◌↔◌, cond, count_by, map, All, IfSome, Option, Some, None, ◌≤ℤ◌, ◌<ℤ◌}
use Rattle.std.proofs.Common.{◌≡◌, ◌⊎◌, ⊎_elim, inl, inr, ℕ, ◌+◌, ◌<◌, ◌≤◌, Bool, true, false, List, [], ◌∷◌, ◌++◌, ℤ, pos, ◌+ℤ◌, refl, sym, subst, ap, ◌∙◌, arith}
use Rattle.std.proofs.lemmas.Int.{ints}
use Rattle.std.proofs.lemmas.Bool.{cases_lt}
use Rattle.std.proofs.lemmas.List.{map-append}
use Rattle.std.proofs.lemmas.List.Sums.{sum_by-cons}
use Rattle.shunt_lists.specs.defs.Members.{In}
use Rattle.shunt_lists.proofs.Members.{all_in, all_from, in_map, of_map, in_left, in_right, in_cases, filter_from, Distinct, each_one, to_all as from_members}
use Rattle.shunt_lists.proofs.Sums.{sum_within}
use Rattle.shunt_base.specs.declared.duals.Case.{Case}
use Rattle.shunt_instance.specs.defs.Instance.{Night, IsInstance}
use Rattle.shunt_blocks.specs.declared.records.Block.{Block}
use Rattle.shunt_blocks.specs.defs.Shapes.{shape_of, unit_from, IsWithinTrains}
use Rattle.shunt_blocks.specs.defs.Blocks.{IsBlockButId}
use Rattle.shunt_blocks.specs.defs.Lists.{has_unit, has_position, times_unit, times_position, CanStand, ShareNothing, RunsThrough, placed, placed_from}
use Rattle.shunt_blocks.proofs.Held.{held, holder}
use Rattle.shunt_choices.proofs.Given.{PlaceLaws}
use Rattle.shunt_prices.specs.defs.Prices.{track_length}
use Rattle.shunt_prices.specs.defs.Cases.{HasRoom}
use Rattle.shunt_prices.proofs.Signed.{sum_z-append}
use Rattle.shunt_stacks.specs.defs.Stacks.{Stack, is_of, blocks_of}
use Rattle.shunt_stacks.specs.defs.Fillings.{gain, gain_of, IsFilling, IsStackGain}
use Rattle.shunt_stacks.specs.defs.Spans.{Span, IsSpan, AreNested, AreAllNested, is_standing, load_with, gain_of_spans, IsNest, AreOwn, best}
use Rattle.shunt_stacks.specs.defs.Numbers.{IsNumbering, span_of, fixed_spans, free_spans, AreFreeOf}
use Rattle.shunt_stacks.proofs.Parts.{part_filter, part_apart, IsFreeAt, is_block, joined_apart, unit_bare, position_bare, PartLaw}
use Rattle.shunt_stacks.proofs.Nests.{two_of, apart_starts, nested_append, load_one}
use Rattle.shunt_stacks.proofs.Filled.{one_gain, part_fills, Gaining, gaining}
use Rattle.shunt_stacks.proofs.Best.{AtLeast, Reached, up, down}
use Rattle.shunt_stacks.proofs.Pairs.{AreApart, is_span, not_one_entry, not_between, not_leaving, apart_from, begins_in, ends_in}
use Rattle.shunt_stacks.proofs.Spanned.{apart_head, two_blocks, ListLaws, to_nest, from_nest}
use Rattle.shunt_blocks.proofs.Shapes.{all_within, has_from, has_position_from, is_within}
use Rattle.shunt_blocks.proofs.StaysOf.{rest_apart as apart_tail}

-- ---- spans without their gains

abbrev bare_span : Span → Span
bare_span s = record s { gain = pos 0 }

to_bare : (spans : List Span) → AreAllNested spans → AreAllNested (map bare_span spans)
to_bare [] nested = tt
to_bare (s ∷ spans) nested = (
  all_from (AreNested (bare_span s)) (map bare_span spans) (λ t i. let u = of_map bare_span spans t i in subst (AreNested (bare_span s)) (sym u.2)
      (all_in (AreNested s) spans u.0 nested.0 u.1)),
  to_bare spans nested.1,
)

of_bare : (spans : List Span) → AreAllNested (map bare_span spans) → AreAllNested spans
of_bare [] nested = tt
of_bare (s ∷ spans) nested = (
  all_from (AreNested s) spans (λ t i. all_in (AreNested (bare_span s)) (map bare_span spans) (bare_span t) nested.0 (in_map bare_span spans t i)),
  of_bare spans nested.1,
)

load_bare : (spans : List Span) (t : Span) → load_with (map bare_span spans) t ≡ load_with spans t
load_bare [] t = refl
load_bare (s ∷ spans) t = omega (arith, load_one (bare_span s) (map bare_span spans) t, load_one s spans t, load_bare spans t)

-- ---- lists that are numbered

of_placed : (k : ℕ) (blocks : List Block) (b : Block) → In b (placed_from k blocks) → (x : Block) × In x blocks × (b ≡ record x { id = b.id })
of_placed k [] b there = absurd there
of_placed k (x ∷ blocks) b (inl e) = (x, inl refl, e ∙ ap (λ (n : ℕ). record x { id = n }) (sym (ap (λ (y : Block). y.id) e)))
of_placed k (x ∷ blocks) b (inr later) = let y = of_placed (k + 1) blocks b later in (y.0, inr y.1, y.2)

placed_units : (night : Night) (k : ℕ) (blocks : List Block) (u : ℕ) → times_unit night (placed_from k blocks) u ≡ times_unit night blocks u
placed_units night k [] u = refl
placed_units night k (b ∷ blocks) u =
    omega (
      arith,
      sum_by-cons (λ (x : Block). cond (has_unit night (shape_of x) u) 1 0) (record b { id = k }) (placed_from (k + 1) blocks),
      sum_by-cons (λ (x : Block). cond (has_unit night (shape_of x) u) 1 0) b blocks,
      placed_units night (k + 1) blocks u,
    )

placed_positions : (night : Night) (k : ℕ) (blocks : List Block) (v : ℕ) → times_position night (placed_from k blocks) v ≡ times_position night blocks v
placed_positions night k [] v = refl
placed_positions night k (b ∷ blocks) v =
    omega (
      arith,
      sum_by-cons (λ (x : Block). cond (has_position night (shape_of x) v) 1 0) (record b { id = k }) (placed_from (k + 1) blocks),
      sum_by-cons (λ (x : Block). cond (has_position night (shape_of x) v) 1 0) b blocks,
      placed_positions night (k + 1) blocks v,
    )

placed_apart : (night : Night) (blocks : List Block) → ShareNothing night blocks → ShareNothing night (placed blocks)
placed_apart night blocks apart = record {
  units = λ u. omega (arith, placed_units night 1 blocks u, apart.units u);
  positions = λ v. omega (arith, placed_positions night 1 blocks v, apart.positions v);
}

cases_off : (t : Bool) → (t ≡ false) ⊎ (t ≡ true)
cases_off true = inr refl
cases_off false = inl refl

-- ---- distinct spans

distinct_from : (spans : List Span) → AreAllNested spans → ((s : Span) → In s spans → IsSpan s) → Distinct spans
distinct_from [] nested are = tt
distinct_from (s ∷ spans) nested are = (
  λ i. apart_starts s s (are s (inl refl)) (are s (inl refl)) refl (all_in (AreNested s) spans s nested.0 i),
  distinct_from spans nested.1 (λ t i. are t (inr i)),
)

-- members of a list of spans that are distinct are together no longer than all of it
load_within : (spans whole : List Span) (t : Span) → Distinct spans → ((s : Span) → In s spans → In s whole) → load_with spans t ≤ load_with whole t
load_within spans whole t distinct members = sum_within (λ (s : Span). cond (is_standing s t) s.length 0) (λ s. true) spans whole distinct (λ s i e. members s i)

-- what more the laws of the crates below say
pub record TieLaws : Type 0 where
  pub lists : ListLaws
  pub places : PlaceLaws
  pub part : PartLaw
  pub room : (night : Night) (blocks : List Block) (b : Block) → IsInstance night → All (IsWithinTrains night) blocks → ShareNothing night blocks
      → RunsThrough night (placed blocks) → In b blocks → IsBlockButId night b → HasRoom night (shape_of b) b.park
  pub stand : (night : Night) (blocks : List Block) → IsInstance night → All (IsWithinTrains night) blocks → ShareNothing night blocks → CanStand night (placed blocks)

module _ (laws : TieLaws) (night : Night) (i : IsInstance night) (stack : Stack) (events : ℕ) (entry leave : ℕ → ℕ) (num : IsNumbering night events entry leave)
    (path : List Block) (all : All (IsBlockButId night) path) (apart : ShareNothing night path) (c : Case) where
  abbrev pub span_with : (Block → ℤ) → Block → Span
  span_with value b = span_of night entry leave value b

  abbrev span_for : Block → Span
  span_for b = span_of night entry leave (λ z. pos 0) b

  abbrev standing : List Block
  standing = blocks_of stack path

  abbrev room : ℕ
  room = track_length night stack.track.0

  abbrev pub fixed : List Span
  fixed = fixed_spans night entry leave (blocks_of stack path)

  abbrev pub free_of : List Block → List Span
  free_of blocks = free_spans night entry leave c blocks

  -- ---- equal lists

  bare_map : (value : Block → ℤ) (blocks : List Block) → map bare_span (map (span_with value) blocks) ≡ map span_for blocks
  bare_map value [] = refl
  bare_map value (b ∷ blocks) = ap (λ (ss : List Span). span_for b ∷ ss) (bare_map value blocks)

  placed_map : (k : ℕ) (blocks : List Block) → map span_for (placed_from k blocks) ≡ map span_for blocks
  placed_map k [] = refl
  placed_map k (b ∷ blocks) = ap (λ (ss : List Span). span_for b ∷ ss) (placed_map (k + 1) blocks)

  same_spans : (filling : List Block) → map bare_span (fixed ++ free_of filling) ≡ map span_for (placed (standing ++ filling))
  same_spans filling =
      map-append bare_span fixed (free_of filling)
      ∙ ap (λ (ss : List Span). ss ++ map bare_span (free_of filling)) (bare_map (λ z. pos 0) standing)
      ∙ ap (λ (ss : List Span). map span_for standing ++ ss) (bare_map (gain night c) filling)
      ∙ sym (map-append span_for standing filling)
      ∙ sym (placed_map 1 (standing ++ filling))

  -- ---- a filling with the path's blocks

  standing_there : (b : Block) → In b standing → In b path × (is_of stack b.park ≡ true)
  standing_there b j = filter_from (λ (x : Block). is_of stack x.park) path b j

  standing_fits : (b : Block) → In b standing → IsBlockButId night b
  standing_fits b j = each_one (IsBlockButId night) path b all (standing_there b j).0

  module _ (filling : List Block) (own : All (λ b. is_of stack b.park ≡ true) filling) (free : All (IsFreeAt night path) filling) (few : ShareNothing night filling) where
    free_fits : (b : Block) → In b filling → IsBlockButId night b
    free_fits b j = is_block laws.places night path b (each_one (IsFreeAt night path) filling b free j)

    whole_fits : (b : Block) → In b (standing ++ filling) → IsBlockButId night b
    whole_fits b j = ⊎_elim (λ l. standing_fits b l) (λ r. free_fits b r) (in_cases standing filling b j)

    whole_own : (b : Block) → In b (standing ++ filling) → is_of stack b.park ≡ true
    whole_own b j = ⊎_elim (λ l. (standing_there b l).1) (λ r. each_one (λ (x : Block). is_of stack x.park ≡ true) filling b own r) (in_cases standing filling b j)

    whole_apart : ShareNothing night (standing ++ filling)
    whole_apart = joined_apart laws.places night path standing filling apart free few (part_filter night (λ (x : Block). is_of stack x.park) path)

    whole_within : All (IsWithinTrains night) (standing ++ filling)
    whole_within = from_members (IsWithinTrains night) (standing ++ filling) (λ b j. is_within night b (whole_fits b j))

    placed_fits : (b : Block) → In b (placed (standing ++ filling)) → IsBlockButId night b
    placed_fits b j = let x = of_placed 1 (standing ++ filling) b j in let w = whole_fits x.0 x.1 in subst (IsBlockButId night) (sym x.2)
        (record { shape = w.shape; option = w.option })

    placed_own : (b : Block) → In b (placed (standing ++ filling)) → is_of stack b.park ≡ true
    placed_own b j = let x = of_placed 1 (standing ++ filling) b j in subst (λ (y : Block). is_of stack y.park ≡ true) (sym x.2) (whole_own x.0 x.1)

    abbrev Fit : List Span → Type 0
    Fit spans = AreAllNested spans × ((s : Span) → In s spans → load_with spans s ≤ room)

    nest_of_run : RunsThrough night (placed (standing ++ filling)) → Fit (fixed ++ free_of filling)
    nest_of_run go =
        let fit = to_nest laws.lists night i stack events entry leave num (placed (standing ++ filling)) placed_fits placed_own
        (placed_apart night (standing ++ filling) whole_apart) (laws.stand night (standing ++ filling) i whole_within whole_apart) go in
        let bare = subst Fit (sym (same_spans filling)) fit in (
          of_bare (fixed ++ free_of filling) bare.0,
          λ s j. let fits = bare.1 (bare_span s) (in_map bare_span (fixed ++ free_of filling) s j) in omega
              (arith, fits, load_bare (fixed ++ free_of filling) (bare_span s)),
        )

    run_of_nest : Fit (fixed ++ free_of filling) → RunsThrough night (placed (standing ++ filling))
    run_of_nest fit =
        let bare : Fit (map bare_span (fixed ++ free_of filling)) = (
          to_bare (fixed ++ free_of filling) fit.0,
          λ s j. bare_load s (of_map bare_span (fixed ++ free_of filling) s j),
        ) in
        let placed_fit = subst Fit (same_spans filling) bare in
        from_nest laws.lists night i stack events entry leave num (placed (standing ++ filling)) placed_fits placed_own (placed_apart night (standing ++ filling) whole_apart)
        (laws.stand night (standing ++ filling) i whole_within whole_apart) placed_fit.0 placed_fit.1
      where
        bare_load : (s : Span) → ((u : Span) × In u (fixed ++ free_of filling) × (s ≡ bare_span u)) → load_with (map bare_span (fixed ++ free_of filling)) s ≤ room
        bare_load s u = let fits = fit.1 u.0 u.1 in subst (λ (t : Span). load_with (map bare_span (fixed ++ free_of filling)) t ≤ room) (sym u.2)
            (omega (arith, fits, load_bare (fixed ++ free_of filling) (bare_span u.0)))

  -- ---- free blocks and those of the path

  free_apart : (x y : Block) → IsFreeAt night path x → In y path → AreApart night x y
  free_apart x y free j = record {
    units = λ u p q. let none = unit_bare laws.places night path x free u (has_from night x u p) in omega
        (arith, none, held (λ (b : Block). has_unit night (shape_of b) u) path y j q);
    positions = λ v p q. let none = position_bare laws.places night path x free v (has_position_from night x v p) in omega
        (arith, none, held (λ (b : Block). has_position night (shape_of b) v) path y j q);
  }

  -- ---- spans of blocks of the stack

  span_is : (value : Block → ℤ) (b : Block) → IsBlockButId night b → is_of stack b.park ≡ true → IsSpan (span_with value b)
  span_is value b is of = let s = is_span laws.lists.events night i stack events entry leave num b is of in record { enters = s.enters; stays = s.stays; leaves = s.leaves }

  different : (x y : Block) → IsBlockButId night x → IsBlockButId night y → AreApart night x y → entry (unit_from night (shape_of x)) ≡ entry (unit_from night (shape_of y)) → ⊥
  different x y a b far e = not_one_entry laws.lists.events night i stack events entry leave num x y a b far e

  zero_gain : (blocks : List Block) → gain_of_spans (map (span_with (λ z. pos 0)) blocks) ≡ pos 0
  zero_gain [] = refl
  zero_gain (b ∷ blocks) = none _ (zero_gain blocks)
    where
      none : (z : ℤ) → z ≡ pos 0 → pos 0 +ℤ z ≡ pos 0
      none z e = omega (arith, ints, e)

  free_gain : (blocks : List Block) → gain_of_spans (free_of blocks) ≡ gain_of night c blocks
  free_gain [] = refl
  free_gain (b ∷ blocks) = ap (λ (z : ℤ). gain night c b +ℤ z) (free_gain blocks)

  nest_gain : (filling : List Block) → gain_of_spans (fixed ++ free_of filling) ≡ gain_of night c filling
  nest_gain filling = added _ _ _ _ (sum_z-append (λ (s : Span). s.gain) fixed (free_of filling)) (zero_gain standing) (free_gain filling)
    where
      added : (all first rest own : ℤ) → all ≡ first +ℤ rest → first ≡ pos 0 → rest ≡ own → all ≡ own
      added all first rest own e f g = omega (arith, ints, e, f, g)

  module _ (blocks : List Block) (are : AreFreeOf night path c stack blocks) where
    abbrev pub free_ones : List Span
    free_ones = free_of blocks

    block_free : (b : Block) → In b blocks → IsFreeAt night path b
    block_free b j = each_one (IsFreeAt night path) blocks b are.free j

    block_own : (b : Block) → In b blocks → is_of stack b.park ≡ true
    block_own b j = each_one (λ (x : Block). is_of stack x.park ≡ true) blocks b are.own j

    block_fits : (b : Block) → In b blocks → IsBlockButId night b
    block_fits b j = is_block laws.places night path b (block_free b j)

    -- ---- their events are their own

    -- the block of a span
    record Behind (s : Span) : Type 0 where
      block : Block
      value : Block → ℤ
      is : s ≡ span_of night entry leave value block
      fit : IsBlockButId night block
      own : is_of stack block.park ≡ true
      far : (y : Block) → In y path → (block ≡ y) ⊎ AreApart night block y

    behind : (s : Span) → In s fixed ⊎ In s free_ones → Behind s
    behind s (inl k) = let x = of_map (span_with (λ z. pos 0)) standing s k in record {
      block = x.0;
      value = λ z. pos 0;
      is = x.2;
      fit = standing_fits x.0 x.1;
      own = (standing_there x.0 x.1).1;
      far = λ y j. two_blocks night path apart x.0 y (standing_there x.0 x.1).0 j;
    }
    behind s (inr k) = let x = of_map (span_with (gain night c)) blocks s k in record {
      block = x.0;
      value = gain night c;
      is = x.2;
      fit = block_fits x.0 x.1;
      own = block_own x.0 x.1;
      far = λ y j. inr (free_apart x.0 y (block_free x.0 x.1) j);
    }

    pub own_events : AreOwn fixed free_ones
    own_events = record {
      spans = λ s k. let x = behind s k in subst IsSpan (sym x.is) (span_is x.value x.block x.fit x.own);
      entries = entries_of;
      leaves = leaves_of;
      one = one_of;
    }
      where
        entries_of : (s f : Span) → In s fixed ⊎ In s free_ones → In f fixed → s.from < f.from → f.from < s.inside → ⊥
        entries_of s f k j low high =
            let x = behind s k in
            let y = of_map (span_with (λ z. pos 0)) standing f j in
            let s_from = ap (λ (t : Span). t.from) x.is in
            let s_inside = ap (λ (t : Span). t.inside) x.is in
            let f_from = ap (λ (t : Span). t.from) y.2 in
            ⊎_elim
            (λ e. let same = ap (λ (b : Block). entry (unit_from night (shape_of b))) e in omega (arith, low, s_from, f_from, same))
            (λ far. not_between laws.lists.events night i stack events entry leave num x.block y.0 x.fit (standing_fits y.0 y.1) far (omega (arith, low, s_from, f_from))
            (omega (arith, high, s_inside, f_from)))
            (x.far y.0 (standing_there y.0 y.1).0)

        leaves_of : (s f : Span) → In s fixed ⊎ In s free_ones → In f fixed → s.until ≤ f.from → f.from < s.past → ⊥
        leaves_of s f k j low high =
            let x = behind s k in
            let y = of_map (span_with (λ z. pos 0)) standing f j in
            let s_until = ap (λ (t : Span). t.until) x.is in
            let s_past = ap (λ (t : Span). t.past) x.is in
            let f_from = ap (λ (t : Span). t.from) y.2 in
            not_leaving laws.lists.events night i stack events entry leave num x.block y.0 x.fit (standing_fits y.0 y.1) (omega (arith, low, s_until, f_from))
            (omega (arith, high, s_past, f_from))

        one_of : (f g : Span) → In f fixed → In g fixed → f.from ≡ g.from → f ≡ g
        one_of f g j k e =
            let y = of_map (span_with (λ z. pos 0)) standing f j in
            let z = of_map (span_with (λ z. pos 0)) standing g k in
            ⊎_elim
            (λ same. y.2 ∙ ap (span_with (λ z. pos 0)) same ∙ sym z.2)
            (λ far. absurd (different y.0 z.0 (standing_fits y.0 y.1) (standing_fits z.0 z.1) far (sym (ap (λ (t : Span). t.from) y.2) ∙ e ∙ ap (λ (t : Span). t.from) z.2)))
            (two_blocks night path apart y.0 z.0 (standing_there y.0 y.1).0 (standing_there z.0 z.1).0)

    -- ---- a filling is a nest

    filling_nest : (filling : List Block) → IsFilling night path stack filling → ((b : Block) → In b filling → pos 0 <ℤ gain night c b)
        → IsNest fixed free_ones 0 events room (fixed ++ free_of filling)
    filling_nest filling fill gains = record {
      of = λ s j. ⊎_elim (λ l. inl l) (λ r. inr (listed s (of_map (span_with (gain night c)) filling s r))) (in_cases fixed (free_of filling) s j);
      has = λ f j low high. in_left fixed (free_of filling) f j;
      between = λ s j. ⊎_elim (λ l. first s (of_map (span_with (λ z. pos 0)) standing s l)) (λ r. second s (of_map (span_with (gain night c)) filling s r))
          (in_cases fixed (free_of filling) s j);
      nested = (nest_of_run filling fill.own fill.free fill.apart fill.through).0;
      fits = (nest_of_run filling fill.own fill.free fill.apart fill.through).1;
    }
      where
        has_room : (b : Block) → In b filling → HasRoom night (shape_of b) b.park
        has_room b j =
            laws.room night (standing ++ filling) b i (whole_within filling fill.own fill.free fill.apart) (whole_apart filling fill.own fill.free fill.apart) fill.through
            (in_right standing filling b j) (free_fits filling fill.own fill.free fill.apart b j)

        listed : (s : Span) → ((b : Block) × In b filling × (s ≡ span_of night entry leave (gain night c) b)) → In s (free_spans night entry leave c blocks)
        listed s b =
            let other = are.every b.0 (each_one (λ (x : Block). is_of stack x.park ≡ true) filling b.0 fill.own b.1) (each_one (IsFreeAt night path) filling b.0 fill.free b.1)
            (gains b.0 b.1) (has_room b.0 b.1) in
            let same : span_of night entry leave (gain night c) b.0 ≡ span_of night entry leave (gain night c) other.0 = ap
            (λ (x : Block). span_of night entry leave (gain night c) x) other.2 in
            subst (λ (t : Span). In t (free_spans night entry leave c blocks)) (sym (b.2 ∙ same)) (in_map (span_of night entry leave (gain night c)) blocks other.0 other.1)

        ends : (value : Block → ℤ) (b : Block) → IsBlockButId night b → (s : Span) → s ≡ span_of night entry leave value b → (0 ≤ s.from) × (s.past ≤ events)
        ends value b is s e = let past = ap (λ (t : Span). t.past) e in (omega arith, omega (arith, past, ends_in laws.lists.events night i stack events entry leave num b is))

        first : (s : Span) → ((b : Block) × In b standing × (s ≡ span_of night entry leave (λ z. pos 0) b)) → (0 ≤ s.from) × (s.past ≤ events)
        first s b = ends (λ z. pos 0) b.0 (standing_fits b.0 b.1) s b.2

        second : (s : Span) → ((b : Block) × In b filling × (s ≡ span_of night entry leave (gain night c) b)) → (0 ≤ s.from) × (s.past ≤ events)
        second s b = ends (gain night c) b.0 (is_block laws.places night path b.0 (each_one (IsFreeAt night path) filling b.0 fill.free b.1)) s b.2

    -- ---- a nest is a filling

    -- the free blocks of a list of spans
    record Chosen (spans : List Span) : Type 0 where
      filling : List Block
      each : (b : Block) → In b filling → In b blocks
      there : (b : Block) → In b filling → In (span_of night entry leave (gain night c) b) spans
      gains : gain_of_spans spans ≡ gain_of night c filling
      nest : AreAllNested spans → AreAllNested (map (span_of night entry leave (gain night c)) filling)

    add_fixed : (s : Span) (spans : List Span) → In s fixed → Chosen spans → Chosen (s ∷ spans)
    add_fixed s spans j k =
        let x = of_map (span_with (λ z. pos 0)) standing s j in
        record {
          filling = k.filling;
          each = k.each;
          there = λ b l. inr (k.there b l);
          gains = none s.gain _ _ (ap (λ (t : Span). t.gain) x.2) k.gains;
          nest = λ n. k.nest n.1;
        }
      where
        none : (z x y : ℤ) → z ≡ pos 0 → x ≡ y → z +ℤ x ≡ y
        none z x y e f = omega (arith, ints, e, f)

    add_free : (s : Span) (spans : List Span) → ((b : Block) × In b blocks × (s ≡ span_of night entry leave (gain night c) b)) → Chosen spans → Chosen (s ∷ spans)
    add_free s spans b k = record {
      filling = b.0 ∷ k.filling;
      each = λ x l. ⊎_elim (λ e. subst (λ (y : Block). In y blocks) (sym e) b.1) (λ r. k.each x r) l;
      there = λ x l. ⊎_elim (λ e. inl (ap (span_with (gain night c)) e ∙ sym b.2)) (λ r. inr (k.there x r)) l;
      gains = more s.gain (gain night c b.0) _ _ (ap (λ (t : Span). t.gain) b.2) k.gains;
      nest = λ n. (
        all_from (AreNested (span_with (gain night c) b.0)) (map (span_with (gain night c)) k.filling) (λ t l. pair n t (of_map (span_with (gain night c)) k.filling t l)),
        k.nest n.1,
      );
    }
      where
        more : (z g x y : ℤ) → z ≡ g → x ≡ y → z +ℤ x ≡ g +ℤ y
        more z g x y e f = omega (arith, ints, e, f)

        pair : AreAllNested (s ∷ spans) → (t : Span) → ((y : Block) × In y k.filling × (t ≡ span_of night entry leave (gain night c) y))
            → AreNested (span_of night entry leave (gain night c) b.0) t
        pair n t y = subst (λ (r : Span). AreNested r t) b.2 (subst (AreNested s) (sym y.2) (all_in (AreNested s) spans (span_with (gain night c) y.0) n.0 (k.there y.0 y.1)))

    choose : (spans : List Span) → ((s : Span) → In s spans → In s fixed ⊎ In s free_ones) → Chosen spans
    choose [] of = record { filling = []; each = λ b j. absurd j; there = λ b j. absurd j; gains = refl; nest = λ n. tt }
    choose (s ∷ spans) of = ⊎_elim
        (λ j. add_fixed s spans j (choose spans (λ t l. of t (inr l))))
        (λ j. add_free s spans (of_map (span_with (gain night c)) blocks s j) (choose spans (λ t l. of t (inr l))))
        (of s (inl refl))

    share : (filling : List Block) → ((b : Block) → In b filling → In b blocks) → AreAllNested (map (span_of night entry leave (gain night c)) filling) → ShareNothing night filling
    share [] each nested = record { units = λ u. omega arith; positions = λ v. omega arith }
    share (b ∷ filling) each nested =
        let rest = share filling (λ x l. each x (inr l)) nested.1 in
        record {
          units = λ u. one_at (λ (x : Block). has_unit night (shape_of x) u) (rest.units u) (λ y l p q. (far y l).units u p q);
          positions = λ v. one_at (λ (x : Block). has_position night (shape_of x) v) (rest.positions v) (λ y l p q. (far y l).positions v p q);
        }
      where
        far : (y : Block) → In y filling → AreApart night b y
        far y l =
            apart_from laws.lists.events night i stack events entry leave num b y (block_fits b (each b (inl refl))) (block_fits y (each y (inr l)))
            (block_own b (each b (inl refl))) (block_own y (each y (inr l)))
            (all_in (AreNested (span_with (gain night c) b)) (map (span_with (gain night c)) filling) (span_with (gain night c) y) nested.0
            (in_map (span_with (gain night c)) filling y l))

        one_at : (test : Block → Bool) → count_by test filling ≤ 1 → ((y : Block) → In y filling → test b ≡ true → test y ≡ true → ⊥) → count_by test (b ∷ filling) ≤ 1
        one_at test few none = ⊎_elim
            (λ off. let zero : cond (test b) 1 0 ≡ 0 = ap {B = ℕ} (λ t. cond t 1 0) off in omega (arith, few, zero, sum_by-cons (λ (x : Block). cond (test x) 1 0) b filling))
            (λ on. ⊎_elim
            (λ less. let one : cond (test b) 1 0 ≡ 1 = ap {B = ℕ} (λ t. cond t 1 0) on in omega (arith, less, one, sum_by-cons (λ (x : Block). cond (test x) 1 0) b filling))
            (λ some. let y = holder test filling some in absurd (none y.0 y.1 on y.2))
            (cases_lt (count_by test filling) 1))
            (cases_off (test b))

    module _ (spans : List Span) (nest : IsNest fixed free_ones 0 events room spans) where
      chosen : Chosen spans
      chosen = choose spans nest.of

      -- each span of the path's blocks is there
      fixed_in : (b : Block) → In b standing → In (span_of night entry leave (λ z. pos 0) b) spans
      fixed_in b j = nest.has (span_for b) (in_map span_for standing b j) (omega arith) (begins_in laws.lists.events night i stack events entry leave num b (standing_fits b j))

      nested_fixed : (some : List Block) → ((b : Block) → In b some → In b standing) → ShareNothing night some → AreAllNested (map (span_of night entry leave (λ z. pos 0)) some)
      nested_fixed [] among few = tt
      nested_fixed (x ∷ some) among few = (
        all_from (AreNested (span_for x)) (map span_for some) (λ t l. pair t (of_map span_for some t l)),
        nested_fixed some (λ b l. among b (inr l)) (apart_tail night x some few),
      )
        where
          pair : (t : Span) → ((y : Block) × In y some × (t ≡ span_of night entry leave (λ z. pos 0) y)) → AreNested (span_of night entry leave (λ z. pos 0) x) t
          pair t y =
              let here = among x (inl refl) in
              let other = among y.0 (inr y.1) in
              subst (AreNested (span_for x)) (sym y.2)
              (⊎_elim
              (λ e. absurd (different x y.0 (standing_fits x here) (standing_fits y.0 other) (apart_head night x some few y.0 y.1) (ap (λ (s : Span). s.from) e)))
              (λ both. both)
              (two_of spans nest.nested (span_for x) (span_for y.0) (fixed_in x here) (fixed_in y.0 other)))

      whole_nested : AreAllNested (fixed ++ free_of chosen.filling)
      whole_nested = nested_append fixed (free_of chosen.filling)
          (nested_fixed standing (λ b l. l) (part_apart night standing path (part_filter night (λ (x : Block). is_of stack x.park) path) apart))
          (chosen.nest nest.nested)
          (λ s t j k. pair s t (of_map span_for standing s j) (of_map (span_with (gain night c)) chosen.filling t k))
        where
          pair : (s t : Span) → ((x : Block) × In x standing × (s ≡ span_of night entry leave (λ z. pos 0) x))
              → ((y : Block) × In y chosen.filling × (t ≡ span_of night entry leave (gain night c) y)) → AreNested s t
          pair s t x y =
              let in_blocks = chosen.each y.0 y.1 in
              subst (λ (r : Span). AreNested r t) (sym x.2) (subst (AreNested (span_for x.0)) (sym y.2)
              (⊎_elim
              (λ e. absurd (different y.0 x.0 (block_fits y.0 in_blocks) (standing_fits x.0 x.1) (free_apart y.0 x.0 (block_free y.0 in_blocks) (standing_there x.0 x.1).0)
              (sym (ap (λ (r : Span). r.from) e))))
              (λ both. both)
              (two_of spans nest.nested (span_for x.0) (span_with (gain night c) y.0) (fixed_in x.0 x.1) (chosen.there y.0 y.1))))

      in_spans : (s : Span) → In s (fixed ++ free_of chosen.filling) → In s spans
      in_spans s j = ⊎_elim
          (λ l. let x = of_map span_for standing s l in subst (λ (t : Span). In t spans) (sym x.2) (fixed_in x.0 x.1))
          (λ r. let y = of_map (span_with (gain night c)) chosen.filling s r in subst (λ (t : Span). In t spans) (sym y.2) (chosen.there y.0 y.1))
          (in_cases fixed (free_of chosen.filling) s j)

      whole_fits_room : (s : Span) → In s (fixed ++ free_of chosen.filling) → load_with (fixed ++ free_of chosen.filling) s ≤ room
      whole_fits_room s j =
          let distinct = distinct_from (fixed ++ free_of chosen.filling) whole_nested (λ t l. own_events.spans t (nest.of t (in_spans t l))) in
          omega (arith, load_within (fixed ++ free_of chosen.filling) spans s distinct in_spans, nest.fits s (in_spans s j))

      nest_filling : IsFilling night path stack chosen.filling
      nest_filling =
          let own = from_members (λ (b : Block). is_of stack b.park ≡ true) chosen.filling (λ b l. block_own b (chosen.each b l)) in
          let free = from_members (IsFreeAt night path) chosen.filling (λ b l. block_free b (chosen.each b l)) in
          let few = share chosen.filling chosen.each (chosen.nest nest.nested) in
          record { own = own; free = free; apart = few; through = run_of_nest chosen.filling own free few (whole_nested, whole_fits_room) }

    -- ---- the gain

    abbrev greatest : Option ℤ
    greatest = best events fixed free_ones 0 events room

    -- what gains something of a filling is one, and gains no less
    module _ (filling : List Block) (fill : IsFilling night path stack filling) where
      gainers : Gaining night c filling
      gainers = gaining night c filling

      gainers_fill : IsFilling night path stack gainers.some
      gainers_fill = part_fills laws.places laws.part night i path (all_within night path all) apart stack filling fill gainers.some gainers.part

      reaches : AtLeast greatest (gain_of_spans (fixed ++ free_of gainers.some))
      reaches = up fixed free_ones own_events events 0 events room (fixed ++ free_of gainers.some) (omega arith) (filling_nest gainers.some gainers_fill gainers.each)

    gain_from : (most : ℤ) → greatest ≡ Some most → IsStackGain night path c stack most
    gain_from most e =
        let r = subst (λ (o : Option ℤ). IfSome o (Reached fixed free_ones own_events 0 events room)) e (down fixed free_ones own_events events 0 events room (omega arith)) in
        record {
          filling = (chosen r.0 r.1).filling;
          fills = nest_filling r.0 r.1;
          has = sym (chosen r.0 r.1).gains ∙ r.2;
          no_more = λ other fill.
              let h = subst (λ (o : Option ℤ). AtLeast o (gain_of_spans (fixed ++ free_of (gainers other fill).some))) e (reaches other fill) in
              lower _ _ (gain_of night c other) most (nest_gain (gainers other fill).some) (gainers other fill).no_less h;
        }
      where
        lower : (x y w z : ℤ) → x ≡ y → w ≤ℤ y → x ≤ℤ z → w ≤ℤ z
        lower x y w z same less le = omega (arith, ints, same, less, le)

    gain_to : (most : ℤ) → IsStackGain night path c stack most → greatest ≡ Some most
    gain_to most g = at greatest refl (reaches g.filling g.fills)
      where
        at : (o : Option ℤ) → greatest ≡ o → AtLeast o (gain_of_spans (fixed ++ free_of (gainers g.filling g.fills).some)) → greatest ≡ Some most
        at None e none = absurd none
        at (Some x) e le = e ∙ ap Some (one_gain night path c stack x most (gain_from x e) g)

    pub gain_is : (most : ℤ)
        → (best events (fixed_spans night entry leave (blocks_of stack path)) (free_spans night entry leave c blocks) 0 events (track_length night stack.track.0)
        ≡ Some most) ↔ IsStackGain night path c stack most
    gain_is most = (gain_from most, gain_to most)
