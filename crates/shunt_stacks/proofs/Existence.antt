-- Each stack has a gain at a path whose run goes through.
use Rattle.std.specs.Prelude.{◌↔◌, ◌&&◌, nat_le, All, map, filter, cond}
use Rattle.std.specs.List.{flat_map, range_with_len}
use Rattle.std.proofs.Common.{◌≡◌, ⊎_elim, ℕ, ◌+◌, ◌<◌, ◌≤◌, Bool, true, List, [], ◌∷◌, ◌++◌, length, get_or, ℤ, ◌+ℤ◌, refl, sym, subst, ap, arith}
use Rattle.std.proofs.lemmas.Int.{ints}
use Rattle.std.proofs.lemmas.Bool.{cases_lt, and_parts, and_from}
use Rattle.std.proofs.lemmas.Bool.Decides.{nat_tests}
use Rattle.std.proofs.lemmas.List.{length-map}
use Rattle.std.proofs.lemmas.List.Sums.{sum_by-cons}
use Rattle.shunt_lists.specs.defs.Members.{In}
use Rattle.shunt_lists.specs.defs.Below.{all_below}
use Rattle.shunt_lists.proofs.Members.{in_map, of_map, in_flat, of_flat, filter_from, filter_to, each_one, to_all as from_members}
use Rattle.shunt_lists.proofs.TestsBelow.{each_passes, all_pass}
use Rattle.shunt_base.specs.declared.duals.Case.{Case}
use Rattle.shunt_stays.specs.defs.Run.{GoesThrough}
use Rattle.shunt_instance.specs.defs.Instance.{Night, IsInstance, unit_total, position_total}
use Rattle.shunt_blocks.specs.declared.records.Block.{Block}
use Rattle.shunt_blocks.specs.defs.Shapes.{shape_of, unit_from, IsWithinTrains}
use Rattle.shunt_blocks.specs.defs.Lists.{has_unit, has_position, times_unit, times_position, ShareNothing, placed_from, stays_of, track_lengths}
use Rattle.shunt_blocks.specs.defs.Pins.{without_id}
use Rattle.shunt_blocks.proofs.Held.{holder}
use Rattle.shunt_choices.specs.defs.Paths.{Masks, masks_of}
use Rattle.shunt_choices.specs.defs.Choices.{Choice, IsChoice, choices_of, chosen, runs_placed}
use Rattle.shunt_choices.proofs.Given.{PlaceLaws}
use Rattle.shunt_stacks.specs.defs.Stacks.{Stack, is_of, blocks_of}
use Rattle.shunt_stacks.specs.defs.Fillings.{gain, gain_of, IsFilling, IsStackGain}
use Rattle.shunt_stacks.specs.defs.Numbers.{AreFreeOf}
use Rattle.shunt_stacks.proofs.Parts.{IsFreeAt, is_block}
use Rattle.shunt_stacks.proofs.Listed.{in_range, of_range, lists_of, in_lists, of_lists, greatest}
use Rattle.shunt_blocks.proofs.Shapes.{has_from, has_position_from, is_within}

-- the choices for a unit are what they are said to be
abbrev pub ChoiceLaw : Type 0
ChoiceLaw = (night : Night) (covered : Masks) (u : ℕ) (c : Choice) → IsInstance night → u < unit_total night → In c (choices_of night covered u) ↔ IsChoice night covered u c

abbrev pub FewLaw : Type 0
FewLaw = (night : Night) (blocks : List Block) → All (IsWithinTrains night) blocks → ShareNothing night blocks → length blocks ≤ unit_total night

-- ---- ids are nothing to a filling

abbrev bare : List Block → List Block
bare blocks = map without_id blocks

bare_units : (night : Night) (blocks : List Block) (u : ℕ) → times_unit night (bare blocks) u ≡ times_unit night blocks u
bare_units night [] u = refl
bare_units night (b ∷ blocks) u =
    omega (
      arith,
      sum_by-cons (λ (x : Block). cond (has_unit night (shape_of x) u) 1 0) (without_id b) (bare blocks),
      sum_by-cons (λ (x : Block). cond (has_unit night (shape_of x) u) 1 0) b blocks,
      bare_units night blocks u,
    )

bare_positions : (night : Night) (blocks : List Block) (v : ℕ) → times_position night (bare blocks) v ≡ times_position night blocks v
bare_positions night [] v = refl
bare_positions night (b ∷ blocks) v =
    omega (
      arith,
      sum_by-cons (λ (x : Block). cond (has_position night (shape_of x) v) 1 0) (without_id b) (bare blocks),
      sum_by-cons (λ (x : Block). cond (has_position night (shape_of x) v) 1 0) b blocks,
      bare_positions night blocks v,
    )

bare_placed : (k : ℕ) (front blocks : List Block) → placed_from k (front ++ bare blocks) ≡ placed_from k (front ++ blocks)
bare_placed k [] [] = refl
bare_placed k [] (b ∷ blocks) = ap (λ (bs : List Block). record b { id = k } ∷ bs) (bare_placed (k + 1) [] blocks)
bare_placed k (f ∷ front) blocks = ap (λ (bs : List Block). record f { id = k } ∷ bs) (bare_placed (k + 1) front blocks)

bare_gain : (night : Night) (c : Case) (blocks : List Block) → gain_of night c (bare blocks) ≡ gain_of night c blocks
bare_gain night c [] = refl
bare_gain night c (b ∷ blocks) = next (gain night c b) _ _ (bare_gain night c blocks)
  where
    next : (z x y : ℤ) → x ≡ y → z +ℤ x ≡ z +ℤ y
    next z x y e = ap (λ (w : ℤ). z +ℤ w) e

-- ---- all free blocks without ids

abbrev pub frees : Night → List Block → List Block
frees night path = flat_map (λ u. map (chosen 0) (choices_of night (masks_of night path) u)) (range_with_len 0 (unit_total night))

module _ (places : PlaceLaws) (choices : ChoiceLaw) (few : FewLaw) (night : Night) (i : IsInstance night) (path : List Block) where
  abbrev at_unit : ℕ → List Block
  at_unit u = map (chosen 0) (choices_of night (masks_of night path) u)

  in_frees : (b : Block) → IsFreeAt night path b → In (without_id b) (frees night path)
  in_frees b free =
      let u = unit_from night (shape_of b) in
      let lt = places.unit_in night (shape_of b) u free.shape.shape.within (record { from = omega arith; to = omega (arith, free.shape.shape.within.n) }) in
      let c : Choice = record { shape = shape_of b; option = b.park } in
      in_flat at_unit (range_with_len 0 (unit_total night)) u (without_id b) (in_range (unit_total night) u lt)
      (in_map (chosen 0) (choices_of night (masks_of night path) u) c ((choices night (masks_of night path) u c i lt).1 (record { shape = free.shape; option = free.option })))

  of_frees : (b : Block) → In b (frees night path) → IsFreeAt night path b
  of_frees b there =
      let u = of_flat at_unit (range_with_len 0 (unit_total night)) b there in
      let lt = of_range (unit_total night) u.0 u.1 in
      let c = of_map (chosen 0) (choices_of night (masks_of night path) u.0) b u.2 in
      let is = (choices night (masks_of night path) u.0 c.0 i lt).0 c.1 in
      subst (IsFreeAt night path) (sym c.2) (record {
        shape = record { shape = is.shape.shape; first = refl; units = is.shape.units; positions = is.shape.positions };
        option = is.option;
      })

  module _ (stack : Stack) where
    -- ---- whether a list of such blocks is a filling

    abbrev test : List Block → Bool
    test l =
        (all_below (unit_total night) (λ u. nat_le (times_unit night l u) 1) && all_below (position_total night) (λ v. nat_le (times_position night l v) 1)) && runs_placed night
        (blocks_of stack path ++ l)

    abbrev owned : List Block
    owned = blocks_of stack (frees night path)

    abbrev fillings : List (List Block)
    fillings = filter test (lists_of (unit_total night) owned)

    low : (n : ℕ) → nat_le n 1 ≡ true → n ≤ 1
    low n e = grind (arith, nat_tests)

    to_low : (n : ℕ) → n ≤ 1 → nat_le n 1 ≡ true
    to_low n le = grind (arith, nat_tests)

    all_free : (l : List Block) → In l fillings → (b : Block) → In b l → IsFreeAt night path b × (is_of stack b.park ≡ true)
    all_free l there b in_l =
        let h = filter_from (λ (x : Block). is_of stack x.park) (frees night path) b
        (of_lists (unit_total night) owned l (filter_from test (lists_of (unit_total night) owned) l there).0 b in_l) in
        (of_frees b h.0, h.1)

    is_filling : (l : List Block) → In l fillings → IsFilling night path stack l
    is_filling l there =
        let t = (filter_from test (lists_of (unit_total night) owned) l there).1 in
        let parts = and_parts (all_below (unit_total night) (λ u. nat_le (times_unit night l u) 1) && all_below (position_total night) (λ v. nat_le (times_position night l v) 1))
        (runs_placed night (blocks_of stack path ++ l)) t in
        let counts = and_parts (all_below (unit_total night) (λ u. nat_le (times_unit night l u) 1))
        (all_below (position_total night) (λ v. nat_le (times_position night l v) 1)) parts.0 in
        record {
          own = from_members (λ (b : Block). is_of stack b.park ≡ true) l (λ b in_l. (all_free l there b in_l).1);
          free = from_members (IsFreeAt night path) l (λ b in_l. (all_free l there b in_l).0);
          apart = record {
            units = λ u. ⊎_elim (λ lt. low (times_unit night l u) (each_passes (unit_total night) (λ w. nat_le (times_unit night l w) 1) counts.0 u lt)) (λ ge. past_unit u ge)
                (cases_lt u (unit_total night));
            positions = λ v. ⊎_elim (λ lt. low (times_position night l v) (each_passes (position_total night) (λ w. nat_le (times_position night l w) 1) counts.1 v lt))
                (λ ge. past_position v ge) (cases_lt v (position_total night));
          };
          through = parts.1;
        }
      where
        past_unit : (u : ℕ) → unit_total night ≤ u → times_unit night l u ≤ 1
        past_unit u ge = ⊎_elim (λ less. omega (arith, less))
            (λ some.
            let b = holder (λ (x : Block). has_unit night (shape_of x) u) l some in
            let lt = places.unit_in night (shape_of b.0) u (all_free l there b.0 b.1).0.shape.shape.within (has_from night b.0 u b.2) in
            absurd (omega (arith, lt, ge)))
            (cases_lt (times_unit night l u) 1)

        past_position : (v : ℕ) → position_total night ≤ v → times_position night l v ≤ 1
        past_position v ge = ⊎_elim (λ less. omega (arith, less))
            (λ some.
            let b = holder (λ (x : Block). has_position night (shape_of x) v) l some in
            let lt = places.position_in night (shape_of b.0) v (all_free l there b.0 b.1).0.shape.shape.within (has_position_from night b.0 v b.2) in
            absurd (omega (arith, lt, ge)))
            (cases_lt (times_position night l v) 1)

    in_fillings : (l : List Block) → IsFilling night path stack l → In (bare l) fillings
    in_fillings l fill = filter_to test (lists_of (unit_total night) owned) (bare l) (in_lists (unit_total night) owned (bare l) short each) passes
      where
        within : All (IsWithinTrains night) l
        within k d lt = is_within night (get_or l k d) (is_block places night path (get_or l k d) (fill.free k d lt))

        short : length (bare l) ≤ unit_total night
        short = omega (arith, few night l within fill.apart, length-map l without_id)

        each : (x : Block) → In x (bare l) → In x (blocks_of stack (frees night path))
        each x there =
            let b = of_map without_id l x there in
            let own = each_one (λ (y : Block). is_of stack y.park ≡ true) l b.0 fill.own b.1 in
            subst (λ (y : Block). In y (blocks_of stack (frees night path))) (sym b.2)
            (filter_to (λ (y : Block). is_of stack y.park) (frees night path) (without_id b.0) (in_frees b.0 (each_one (IsFreeAt night path) l b.0 fill.free b.1)) own)

        passes : test (bare l) ≡ true
        passes = and_from _ _
            (and_from _ _
            (all_pass (unit_total night) (λ u. nat_le (times_unit night (bare l) u) 1)
            (λ u lt. to_low (times_unit night (bare l) u) (omega (arith, bare_units night l u, fill.apart.units u))))
            (all_pass (position_total night) (λ v. nat_le (times_position night (bare l) v) 1)
            (λ v lt. to_low (times_position night (bare l) v) (omega (arith, bare_positions night l v, fill.apart.positions v)))))
            (subst (λ (bs : List Block). GoesThrough (track_lengths night.station) (stays_of night bs)) (sym (bare_placed 1 (blocks_of stack path) l)) fill.through)

    -- ---- all free blocks of the stack

    pub frees_are : (c : Case) → AreFreeOf night path c stack (blocks_of stack (frees night path))
    frees_are c =
        let owned_by = λ (x : Block). is_of stack x.park in
        record {
          own = from_members (λ (b : Block). is_of stack b.park ≡ true) owned (λ b there. (filter_from owned_by (frees night path) b there).1);
          free = from_members (IsFreeAt night path) owned (λ b there. of_frees b (filter_from owned_by (frees night path) b there).0);
          every = λ b of free gains room. (without_id b, filter_to owned_by (frees night path) (without_id b) (in_frees b free) of, refl);
        }

    -- ---- the greatest gain

    pub gain_there : (c : Case) → IsFilling night path stack [] → (most : ℤ) × IsStackGain night path c stack most
    gain_there c none = found fillings (in_fillings [] none) (λ l there. is_filling l there) (λ l fill. in_fillings l fill)
      where
        found : (ls : List (List Block)) → In [] ls → ((l : List Block) → In l ls → IsFilling night path stack l)
            → ((l : List Block) → IsFilling night path stack l → In (bare l) ls) → (most : ℤ) × IsStackGain night path c stack most
        found [] there are all = absurd there
        found (l ∷ ls) there are all =
            let g = greatest (gain_of night c) l ls in (
              gain_of night c g.one,
              record {
                filling = g.one;
                fills = are g.one g.there;
                has = refl;
                no_more = λ other fill. omega
                    (arith, ints, bare_gain night c other, g.most (bare other) (all other fill));
              },
            )
