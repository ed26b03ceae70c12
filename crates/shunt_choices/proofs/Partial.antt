-- Partial plans: the pins are one, they grow by choices, and each other one comes so.
use Rattle.std.specs.Prelude.{◌↔◌, All, AllPairs, cond, map, Option, Some, None, IsPermutation}
use Rattle.std.specs.Option.{IsSomeAnd}
use Rattle.std.proofs.Common.{◌≡◌, ◌⊎◌, ⊎_elim, inl, inr, ℕ, ◌+◌, ◌<◌, ◌≤◌, Bool, true, false, List, [], ◌∷◌, ◌++◌, length, get_or, refl, sym, ap, subst, ◌∙◌, arith}
use Rattle.std.proofs.lemmas.Bool.{cases_lt}
use Rattle.std.proofs.lemmas.Bool.Decides.{nat_tests}
use Rattle.std.proofs.lemmas.List.{append-nil, append_assoc, map-append, same_from_push, length-append, get_or_append_left, get_or_push}
use Rattle.std.proofs.lemmas.List.Sums.{sum_by-append}
use Rattle.std.proofs.lemmas.List.Sorted.{All-permutation, sum_by-IsPermutation}
use Rattle.std.proofs.lemmas.List.Elements.{All-push}
use Rattle.shunt_lists.proofs.Members.{in_left, in_right, each_one, place, pairs_more as rises_more}
use Rattle.shunt_lists.specs.defs.Members.{In}
use Rattle.shunt_stays.proofs.SortedEvents.{of_permuted}
use Rattle.shunt_instance.specs.defs.Instance.{Night, IsInstance, unit_total}
use Rattle.shunt_blocks.specs.declared.records.Block.{Block}
use Rattle.shunt_blocks.specs.defs.Shapes.{shape_of, begins_at, HasUnit}
use Rattle.shunt_blocks.specs.defs.Blocks.{IsBlockButId}
use Rattle.shunt_blocks.specs.defs.Lists.{has_unit, has_position, times_unit, ShareNothing, RunsThrough, placed}
use Rattle.shunt_blocks.specs.defs.Pins.{without_id, AreUsable}
use Rattle.shunt_choices.proofs.Given.{BlockLaws}
use Rattle.shunt_choices.specs.defs.Paths.{masks_of, next_of, AreInOrder, IsPartialPlan}
use Rattle.shunt_choices.specs.defs.Choices.{Choice, IsChoice, IsChoiceAt, chosen, longer_by}
use Rattle.shunt_choices.proofs.Masks.{unit_more, position_more}
use Rattle.shunt_choices.proofs.Trails.{front_apart}
use Rattle.shunt_choices.proofs.SortedBlocks.{share_nothing}
use Rattle.shunt_blocks.proofs.Held.{held, holder, ends}
use Rattle.shunt_choices.proofs.Grown.{IsNext, next_is, next_at, IsFreeBlock, grown_apart, choice_free, choice_fits, choice_of, free_choice}
use Rattle.shunt_blocks.proofs.Shapes.{all_within, has_from, begins_itself, but_ids}

-- ---- the pins alone

pub pins_alone : (laws : BlockLaws) (night : Night) (pins start : List Block) → IsInstance night → AreUsable night pins → IsPermutation pins start → AreInOrder night start
    → IsPartialPlan night pins start
pins_alone laws night pins start is usable same rise =
    let each = All-permutation (IsBlockButId night) pins start same (but_ids night pins usable.each) in
    let apart = share_nothing night pins start same usable.apart in
    record {
      start = start;
      found = [];
      below = 0;
      is = sym (append-nil start);
      pinned = same;
      pins_rise = rise;
      found_rise = λ i j d before lt. absurd (omega (arith, lt));
      each = each;
      exactly = λ u lt. (λ h. inl (omega (arith, h, times u)), ⊎_elim (λ h. omega (arith, h, times u)) (λ h. absurd (omega (arith, h))));
      apart = apart;
      through = laws.part night pins start is (λ k d lt. (usable.in_range.each k d lt).within) usable.apart (all_within night start each) apart
          (λ c there. (c, of_permuted pins start c same there, refl))
          ((laws.renumbered night pins is usable.in_range usable.apart).0 usable.through);
    }
  where
    times : (u : ℕ) → times_unit night start u ≡ times_unit night pins u
    times u = sum_by-IsPermutation _ pins start same

-- ---- a choice more

rises_to : {X : Type 0} (R : X → X → Type 0) (xs : List X) (x y : X) → AllPairs R (xs ++ x ∷ []) → In y xs → R y x
rises_to R xs x y rise there =
    let at = place xs y there in
    subst (λ z. R z x) (get_or_append_left xs (x ∷ []) x at.0 at.1 ∙ at.2 x)
    (subst (λ z. R (get_or (xs ++ x ∷ []) at.0 x) z) (get_or_push xs x x (length xs) refl) (rise at.0 (length xs) x at.1 (omega (arith, length-append xs (x ∷ [])))))

has_none : (night : Night) (b : Block) (w : ℕ) → (HasUnit night (shape_of b) w → ⊥) → has_unit night (shape_of b) w ≡ false
has_none night b w never = at (has_unit night (shape_of b) w) refl
  where
    at : (t : Bool) → has_unit night (shape_of b) w ≡ t → has_unit night (shape_of b) w ≡ false
    at true e = absurd (never (has_from night b w e))
    at false e = e

more_units : (night : Night) (blocks : List Block) (b : Block) (w : ℕ) → times_unit night blocks w ≤ times_unit night (blocks ++ b ∷ []) w
more_units night blocks b w = omega (arith, unit_more night blocks b w)

without_it : (night : Night) (blocks : List Block) (b : Block) (w : ℕ) → has_unit night (shape_of b) w ≡ false → times_unit night (blocks ++ b ∷ []) w ≡ times_unit night blocks w
without_it night blocks b w off = let none : cond (has_unit night (shape_of b) w) 1 0 ≡ 0 = ap {B = ℕ} (λ t. cond t 1 0) off in omega (arith, unit_more night blocks b w, none)

with_it : (night : Night) (blocks : List Block) (b : Block) (w : ℕ) → has_unit night (shape_of b) w ≡ true → times_unit night (blocks ++ b ∷ []) w ≡ times_unit night blocks w + 1
with_it night blocks b w on = let one : cond (has_unit night (shape_of b) w) 1 0 ≡ 1 = ap {B = ℕ} (λ t. cond t 1 0) on in omega (arith, unit_more night blocks b w, one)

has_to : (night : Night) (b : Block) (w : ℕ) → begins_at night b ≤ w → w < begins_at night b + b.n → has_unit night (shape_of b) w ≡ true
has_to night b w from to = grind (arith, nat_tests)

-- ---- what the found blocks cover

in_blocks : (night : Night) (pins blocks : List Block) → (h : IsPartialPlan night pins blocks) → (c : Block) → In c h.found → In c blocks
in_blocks night pins blocks h c there = subst (In c) (sym h.is) (in_right h.start h.found c there)

two_parts : (night : Night) (pins blocks : List Block) → (h : IsPartialPlan night pins blocks) → (w : ℕ)
    → times_unit night blocks w ≡ times_unit night pins w + times_unit night h.found w
two_parts night pins blocks h w =
    let parts : times_unit night blocks w ≡ times_unit night h.start w + times_unit night h.found w = ap (λ bs. times_unit night bs w) h.is ∙ sum_by-append _ h.start h.found in
    let same : times_unit night h.start w ≡ times_unit night pins w = sum_by-IsPermutation _ pins h.start h.pinned in
    omega (arith, parts, same)

-- their units come before the number to which the partial plan goes
found_below : (laws : BlockLaws) (night : Night) (pins blocks : List Block) → (h : IsPartialPlan night pins blocks) → (c : Block) (w : ℕ) → In c h.found
    → has_unit night (shape_of c) w ≡ true → w < h.below
found_below laws night pins blocks h c w there has =
    let inside = in_blocks night pins blocks h c there in
    let fits = each_one (IsBlockButId night) blocks c h.each inside in
    let lt = laws.places.unit_in night (shape_of c) w fits.shape.within (has_from night c w has) in
    let test = λ (b : Block). has_unit night (shape_of b) w in
    ⊎_elim
    (λ pinned. absurd (omega (arith, pinned, h.apart.units w, two_parts night pins blocks h w, held test h.found c there has)))
    (λ low. low)
    ((h.exactly w lt).0 (held test blocks c inside has))

-- and that comes at most to the least uncovered unit
lower : (laws : BlockLaws) (night : Night) (pins blocks : List Block) → (h : IsPartialPlan night pins blocks) → (u : ℕ) → IsNext night blocks u → h.below ≤ u
lower laws night pins blocks h u next = ⊎_elim
    (λ less. absurd (omega (arith, next.free, (h.exactly u next.there).1 (inr less))))
    (λ ge. ge)
    (cases_lt u h.below)

pub grown : (laws : BlockLaws) (night : Night) (pins blocks : List Block) (b : Block) → IsPartialPlan night pins blocks → IsNext night blocks (begins_at night b)
    → IsBlockButId night b → IsFreeBlock night blocks b → RunsThrough night (placed (blocks ++ b ∷ [])) → IsPartialPlan night pins (blocks ++ b ∷ [])
grown laws night pins blocks b h next fits free through = record {
  start = h.start;
  found = h.found ++ b ∷ [];
  below = begins_at night b + b.n;
  is = ap (λ xs. xs ++ b ∷ []) h.is ∙ append_assoc h.start h.found (b ∷ []);
  pinned = h.pinned;
  pins_rise = h.pins_rise;
  found_rise = rises_more (λ c d. begins_at night c < begins_at night d) h.found b h.found_rise earlier;
  each = All-push (IsBlockButId night) blocks b h.each fits;
  exactly = λ w lt. (forth w lt, back w lt);
  apart = grown_apart night blocks b h.apart free;
  through = through;
}
  where
    earlier : (c : Block) → In c h.found → begins_at night c < begins_at night b
    earlier c there =
        let fits_too = each_one (IsBlockButId night) blocks c h.each (in_blocks night pins blocks h c there) in
        omega (
          arith,
          found_below laws night pins blocks h c (begins_at night c) there (begins_itself night c fits_too.shape.within.n),
          lower laws night pins blocks h (begins_at night b) next,
        )

    forth : (w : ℕ) → w < unit_total night → 1 ≤ times_unit night (blocks ++ b ∷ []) w → (1 ≤ times_unit night pins w) ⊎ (w < begins_at night b + b.n)
    forth w lt some = at (has_unit night (shape_of b) w) refl
      where
        at : (t : Bool) → has_unit night (shape_of b) w ≡ t → (1 ≤ times_unit night pins w) ⊎ (w < begins_at night b + b.n)
        at true e = inr (has_from night b w e).to
        at false e = ⊎_elim
            (λ pinned. inl pinned)
            (λ low. inr (omega (arith, low, lower laws night pins blocks h (begins_at night b) next)))
            ((h.exactly w lt).0 (omega (arith, some, without_it night blocks b w e)))

    back : (w : ℕ) → w < unit_total night → (1 ≤ times_unit night pins w) ⊎ (w < begins_at night b + b.n) → 1 ≤ times_unit night (blocks ++ b ∷ []) w
    back w lt (inl pinned) = omega (arith, (h.exactly w lt).1 (inl pinned), more_units night blocks b w)
    back w lt (inr low) = ⊎_elim
        (λ less. omega (arith, next.before w less, more_units night blocks b w))
        (λ ge. omega (arith, with_it night blocks b w (has_to night b w ge low)))
        (cases_lt w (begins_at night b))

-- ---- the last block is a choice

-- but for ids, blocks with one at their end are those with its choice
pub same_but_ids : (blocks : List Block) (b : Block) → map without_id (blocks ++ b ∷ []) ≡ map without_id (longer_by blocks (choice_of b))
same_but_ids blocks b = map-append without_id blocks (b ∷ []) ∙ sym (map-append without_id blocks (chosen (length blocks + 1) (choice_of b) ∷ []))

-- of blocks that share nothing, none before the last has its units
last_free : (night : Night) (blocks : List Block) (b : Block) → ShareNothing night (blocks ++ b ∷ []) → IsFreeBlock night blocks b
last_free night blocks b apart = record {
  units = λ w has. omega (arith, apart.units w, with_it night blocks b w (has_to night b w has.from has.to));
  positions = λ v has. let on : has_position night (shape_of b) v ≡ true = grind (arith, nat_tests, has.from, has.to) in let one : cond (has_position night (shape_of b) v) 1 0
      ≡ 1 = ap {B = ℕ} (λ t. cond t 1 0) on in omega (arith, apart.positions v, position_more night blocks b v, one);
}

-- a partial plan that ends with a found block
pub record EndsWith (night : Night) (pins blocks : List Block) : Type 0 where
  pub front : List Block
  pub last : Block
  pub is : blocks ≡ front ++ last ∷ []
  pub plan : IsPartialPlan night pins front
  pub next : IsNext night front (begins_at night last)
  pub fits : IsBlockButId night last
  pub free : IsFreeBlock night front last

shorter : (laws : BlockLaws) (night : Night) (pins start found : List Block) (b : Block) (below : ℕ) → IsInstance night → IsPermutation pins start → AreInOrder night start
    → AreInOrder night (found ++ b ∷ [])
    → All (IsBlockButId night) ((start ++ found) ++ b ∷ [])
    → ((u : ℕ) → u < unit_total night → (1 ≤ times_unit night ((start ++ found) ++ b ∷ []) u) ↔ ((1 ≤ times_unit night pins u) ⊎ (u < below)))
    → ShareNothing night ((start ++ found) ++ b ∷ []) → RunsThrough night (placed ((start ++ found) ++ b ∷ []))
    → EndsWith night pins ((start ++ found) ++ b ∷ [])
shorter laws night pins start found b below is pinned pins_rise rise each exactly apart through = record {
  front = start ++ found;
  last = b;
  is = refl;
  plan = record {
    start = start;
    found = found;
    below = u;
    is = refl;
    pinned = pinned;
    pins_rise = pins_rise;
    found_rise = front_rise;
    each = each_front;
    exactly = λ w lt. (forth w lt, back w lt);
    apart = front_alone;
    through = laws.part night all front is (all_within night all each) apart (all_within night front each_front) front_alone
        (λ c there. (c, in_left front (b ∷ []) c there, refl)) through;
  };
  next = record { there = inside; free = bare; before = before };
  fits = fits;
  free = free;
}
  where
    front : List Block
    front = start ++ found

    all : List Block
    all = front ++ b ∷ []

    u : ℕ
    u = begins_at night b

    fits : IsBlockButId night b
    fits = each_one (IsBlockButId night) all b each (in_right front (b ∷ []) b (inl refl))

    free : IsFreeBlock night front b
    free = last_free night front b apart

    itself : HasUnit night (shape_of b) u
    itself = record { from = omega arith; to = omega (arith, fits.shape.within.n) }

    inside : u < unit_total night
    inside = laws.places.unit_in night (shape_of b) u fits.shape.within itself

    bare : times_unit night front u ≡ 0
    bare = free.units u itself

    front_alone : ShareNothing night front
    front_alone = front_apart night front b apart

    each_front : All (IsBlockButId night) front
    each_front k d lt = subst (IsBlockButId night) (get_or_append_left front (b ∷ []) d k lt) (each k d (omega (arith, lt, length-append front (b ∷ []))))

    front_rise : AreInOrder night found
    front_rise i j d earlier lt =
        let size = length-append found (b ∷ []) in
        subst (λ c. begins_at night (get_or found i d) < begins_at night c) (get_or_append_left found (b ∷ []) d j lt)
        (subst (λ c. begins_at night c < begins_at night (get_or (found ++ b ∷ []) j d)) (get_or_append_left found (b ∷ []) d i (omega (arith, earlier, lt)))
        (rise i j d earlier (omega (arith, lt, size))))

    starts : (w : ℕ) → times_unit night front w ≡ times_unit night pins w + times_unit night found w
    starts w =
        let parts : times_unit night front w ≡ times_unit night start w + times_unit night found w = sum_by-append _ start found in
        let same : times_unit night start w ≡ times_unit night pins w = sum_by-IsPermutation _ pins start pinned in
        omega (arith, parts, same)

    reaches : u < below
    reaches = ⊎_elim (λ h. absurd (omega (arith, h, bare, starts u))) (λ h. h) ((exactly u inside).0
        (omega (arith, with_it night front b u (has_to night b u itself.from itself.to))))

    before : (w : ℕ) → w < u → 1 ≤ times_unit night front w
    before w less = omega (
      arith,
      (exactly w (omega (arith, less, inside))).1 (inr (omega (arith, less, reaches))),
      without_it night front b w (has_none night b w (λ has. omega (arith, has.from, less))),
    )

    earlier : (c : Block) → In c found → begins_at night c < u
    earlier c there = rises_to (λ c d. begins_at night c < begins_at night d) found b c rise there

    -- a found block that went past the last one's first unit would have it
    found_before : (c : Block) (w : ℕ) → In c found → has_unit night (shape_of c) w ≡ true → w < u
    found_before c w there has = ⊎_elim (λ less. less)
        (λ ge. absurd (omega (
          arith,
          bare,
          starts u,
          held (λ x. has_unit night (shape_of x) u) found c there
              (has_to night c u (omega (arith, earlier c there)) (omega (arith, ge, (has_from night c w has).to))),
        )))
        (cases_lt w u)

    forth : (w : ℕ) → w < unit_total night → 1 ≤ times_unit night front w → (1 ≤ times_unit night pins w) ⊎ (w < u)
    forth w lt some = ⊎_elim
        (λ none. inr (let of = holder (λ x. has_unit night (shape_of x) w) found (omega (arith, some, starts w, none)) in found_before of.0 w of.1 of.2))
        (λ pinned_too. inl pinned_too)
        (cases_lt (times_unit night pins w) 1)

    back : (w : ℕ) → w < unit_total night → (1 ≤ times_unit night pins w) ⊎ (w < u) → 1 ≤ times_unit night front w
    back w lt (inl pinned_too) = omega (arith, starts w, pinned_too)
    back w lt (inr less) = before w less

last_found : (laws : BlockLaws) (night : Night) (pins blocks : List Block) → IsInstance night → (h : IsPartialPlan night pins blocks) → (found : List Block) (b : Block)
    → h.found ≡ found ++ b ∷ [] → EndsWith night pins blocks
last_found laws night pins blocks is h found b e =
    let same : blocks ≡ (h.start ++ found) ++ b ∷ [] = h.is ∙ ap (λ xs. h.start ++ xs) e ∙ sym (append_assoc h.start found (b ∷ [])) in
    subst (EndsWith night pins) (sym same)
    (shorter laws night pins h.start found b h.below is h.pinned h.pins_rise (subst (AreInOrder night) e h.found_rise)
    (subst (All (IsBlockButId night)) same h.each)
    (subst (λ bs. (u : ℕ) → u < unit_total night → (1 ≤ times_unit night bs u) ↔ ((1 ≤ times_unit night pins u) ⊎ (u < h.below))) same h.exactly)
    (subst (ShareNothing night) same h.apart)
    (subst (λ bs. RunsThrough night (placed bs)) same h.through))

-- ---- in the words of choices

pub choice_there : (night : Night) (blocks : List Block) (c : Choice) (u : ℕ) → next_of (masks_of night blocks) ≡ Some u → IsChoice night (masks_of night blocks) u c
    → IsChoiceAt night blocks c
choice_there night blocks c u e h = subst (λ o. IsSomeAnd o (λ u. IsChoice night (masks_of night blocks) u c)) (sym e) h

-- the next unit of a choice
pub next_unit : (night : Night) (blocks : List Block) (c : Choice) → IsChoiceAt night blocks c
    → (u : ℕ) × (next_of (masks_of night blocks) ≡ Some u) × IsChoice night (masks_of night blocks) u c
next_unit night blocks c h = at (next_of (masks_of night blocks)) refl h
  where
    at : (o : Option ℕ) → next_of (masks_of night blocks) ≡ o → IsSomeAnd o (λ u. IsChoice night (masks_of night blocks) u c)
        → (u : ℕ) × (next_of (masks_of night blocks) ≡ Some u) × IsChoice night (masks_of night blocks) u c
    at None e k = absurd k
    at (Some u) e k = (u, e, k)

pub grows : (laws : BlockLaws) (night : Night) (pins blocks : List Block) (c : Choice) → IsPartialPlan night pins blocks → IsChoiceAt night blocks c
    → IsPartialPlan night pins (longer_by blocks c) ↔ RunsThrough night (placed (longer_by blocks c))
grows laws night pins blocks c h choice =
    let at = next_unit night blocks c choice in
    let id = length blocks + 1 in (
      λ longer. longer.through,
      λ through. grown laws night pins blocks (chosen id c) h (subst (IsNext night blocks) (sym at.2.shape.first) (next_is night blocks at.0 at.1))
          (choice_fits night blocks at.0 id c at.2) (choice_free laws.places night blocks at.0 id c at.2) through,
    )

pub comes : (laws : BlockLaws) (night : Night) (pins blocks : List Block) → IsInstance night → IsPartialPlan night pins blocks
    → IsPermutation pins blocks ⊎ ((front : List Block) × (c : Choice) × IsPartialPlan night pins front × IsChoiceAt night front c
    × (map without_id blocks ≡ map without_id (longer_by front c)))
comes laws night pins blocks is h = ⊎_elim
    (λ none. inl (subst (IsPermutation pins) (sym (append-nil h.start) ∙ ap (λ xs. h.start ++ xs) (sym none) ∙ sym h.is) h.pinned))
    (λ some.
    let x = last_found laws night pins blocks is h some.0 some.1 some.2 in
    inr (
      x.front,
      choice_of x.last,
      x.plan,
      choice_there night x.front (choice_of x.last) (begins_at night x.last) (next_at night x.front (begins_at night x.last) x.next)
          (free_choice laws.places night x.front x.last x.fits x.free),
      ap (map without_id) x.is ∙ same_but_ids x.front x.last,
    ))
    (ends h.found)

same_choice : (c d : Choice) (i j : ℕ) → without_id (chosen i c) ≡ without_id (chosen j d) → c ≡ d
same_choice c d i j e = ap choice_of e

pub once : (front other : List Block) (c d : Choice) → map without_id (longer_by front c) ≡ map without_id (longer_by other d)
    → (map without_id front ≡ map without_id other) × (c ≡ d)
once front other c d e =
    let one = chosen (length front + 1) c in
    let two = chosen (length other + 1) d in
    let same : map without_id front ++ without_id one ∷ [] ≡ map without_id other ++ without_id two ∷ [] = sym (map-append without_id front (one ∷ [])) ∙ e
    ∙ map-append without_id other (two ∷ []) in
    let parts = same_from_push (map without_id front) (map without_id other) (without_id one) (without_id two) same in
    (parts.0, same_choice c d (length front + 1) (length other + 1) parts.1)
