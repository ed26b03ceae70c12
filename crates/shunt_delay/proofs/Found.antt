-- The first of the findings that a late train brings.
use Rattle.std.specs.Prelude.{is_some, Option, Some, None, slice_index, nat_le, nat_lt, ◌==◌}
use Rattle.std.specs.List.{flat_map, filter}
use Rattle.std.proofs.Common.{◌≡◌, ◌≢◌, inl, inr, ⊎_elim, ℕ, zero, suc, ◌<◌, ◌≤◌, Bool, true, false, List, [], ◌∷◌, ◌++◌, length, take, get_or, refl, sym, subst, ap, ◌∙◌, arith}
use Rattle.std.proofs.lemmas.Bool.{cases_Bool, ne_eqb, cases_lt, ltb-true, false_from_ne_true, false≢true}
use Rattle.std.proofs.lemmas.List.{take_all}
use Rattle.std.proofs.lemmas.List.Concat.{flat_map-cons}
use Rattle.std.proofs.lemmas.List.Elements.{filter-append}
use Rattle.shunt_lists.proofs.Members.{filter_yes, filter_no, filter_from, filter_to, of_flat}
use Rattle.shunt_lists.specs.defs.Members.{In}
use Rattle.shunt_base.specs.declared.keys.Stay.{Stay}
use Rattle.shunt_base.specs.defs.Keys.{AreStays}
use Rattle.shunt_stays.specs.defs.Run.{AreOnTracks}
use Rattle.shunt_stays.specs.defs.Crossings.{crosses, load_after}
use Rattle.shunt_stays.proofs.Crossings.{through_clear, clear_through}
use Rattle.shunt_instance.specs.defs.Instance.{Night, unit_total, position_total}
use Rattle.shunt_blocks.specs.declared.records.Block.{Block}
use Rattle.shunt_blocks.specs.defs.Shapes.{shape_of}
use Rattle.shunt_blocks.specs.defs.Blocks.{type_fault}
use Rattle.shunt_blocks.specs.defs.Stays.{is_too_soon}
use Rattle.shunt_blocks.specs.defs.Lists.{times_unit, times_position, track_lengths, stays_of}
use Rattle.shunt_audit.specs.declared.types.Finding.{Finding}
use Rattle.shunt_audit.specs.declared.types.Finding.TheVariants.{UnitBare, UnitTwice, PlaceBare, PlaceTwice, WrongType, TooSoon, NoRouteIn, NoRouteOut, Crossing, TooLong, StatedCost}
use Rattle.shunt_audit.specs.defs.Findings.{IsFinding}
use Rattle.shunt_audit.specs.defs.Listed.{noted, noted_below, by_id, bare_units, twice_units, bare_places, twice_places, lacks_way_in, lacks_way_out, wrong_types, too_soons, no_ways_in, no_ways_out, crossings_of, crossings, too_long_at, too_longs, cover_findings, block_findings, clash_findings, findings_in}
use Rattle.shunt_audit.proofs.Lists.{of_below_noted, of_flat_noted}
use Rattle.shunt_audit.proofs.Exactly.{exactly}
use Rattle.shunt_audit.proofs.Feasible.{no_member}
use Rattle.shunt_delay.specs.defs.Kept.{of_train, AreOthersApart, AreOthersWithin, too_longs_of}
use Rattle.shunt_delay.specs.defs.Delays.{StaysFeasible, is_of_delay, delay_findings, first}
use Rattle.shunt_lists.proofs.Tests.{lt_true}

-- ---- which findings are those of a delay

all_kept : {X : Type 0} (p : X → Bool) (xs : List X) → ((x : X) → In x xs → p x ≡ true) → filter p xs ≡ xs
all_kept p [] h = refl
all_kept {X} p (x ∷ xs) h = filter_yes p x xs (h x (inl refl)) ∙ ap (λ (ys : List X). x ∷ ys) (all_kept p xs (λ y i. h y (inr i)))

none_kept : {X : Type 0} (p : X → Bool) (xs : List X) → ((x : X) → In x xs → p x ≡ false) → filter p xs ≡ []
none_kept p [] h = refl
none_kept p (x ∷ xs) h = filter_no p x xs (h x (inl refl)) ∙ none_kept p xs (λ y i. h y (inr i))

below_gone : (n : ℕ) (t : ℕ → Bool) (note : ℕ → Finding) → ((k : ℕ) → is_of_delay (note k) ≡ false) → filter is_of_delay (noted_below n (λ k. noted (t k) (note k))) ≡ []
below_gone n t note h = none_kept is_of_delay (noted_below n (λ k. noted (t k) (note k))) (λ f i. let r = of_below_noted n t note f i in ap is_of_delay r.3 ∙ h r.0)

flat_gone : {X : Type 0} (t : X → Bool) (note : X → Finding) (xs : List X) → ((x : X) → is_of_delay (note x) ≡ false)
    → filter is_of_delay (flat_map (λ x. noted (t x) (note x)) xs) ≡ []
flat_gone t note xs h = none_kept is_of_delay (flat_map (λ x. noted (t x) (note x)) xs) (λ f i. let r = of_flat_noted t note xs f i in ap is_of_delay r.3 ∙ h r.0)

flat_kept : {X : Type 0} (t : X → Bool) (note : X → Finding) (xs : List X) → ((x : X) → is_of_delay (note x) ≡ true)
    → filter is_of_delay (flat_map (λ x. noted (t x) (note x)) xs) ≡ flat_map (λ x. noted (t x) (note x)) xs
flat_kept t note xs h = all_kept is_of_delay (flat_map (λ x. noted (t x) (note x)) xs) (λ f i. let r = of_flat_noted t note xs f i in ap is_of_delay r.3 ∙ h r.0)

crossings_kept : (stays : List Stay) → filter is_of_delay (crossings stays) ≡ crossings stays
crossings_kept stays = all_kept is_of_delay (crossings stays)
    (λ f i. let r = of_flat (crossings_of stays) stays f i in let x = of_flat_noted (crosses r.0) (λ c. Crossing r.0.id c.id) stays f r.2 in ap is_of_delay x.3)

-- two lists of which nothing, or all, is kept
join : {X : Type 0} (p : X → Bool) (xs ys us vs : List X) → filter p xs ≡ us → filter p ys ≡ vs → filter p (xs ++ ys) ≡ us ++ vs
join {X} p xs ys us vs e f = filter-append p xs ys ∙ ap (λ (zs : List X). zs ++ filter p ys) e ∙ ap (λ (zs : List X). us ++ zs) f

cover_gone : (night : Night) (blocks : List Block) → filter is_of_delay (cover_findings night blocks) ≡ []
cover_gone night blocks =
    join is_of_delay (bare_units night blocks) (twice_units night blocks ++ (bare_places night blocks ++ twice_places night blocks)) [] []
    (below_gone (unit_total night) (λ u. times_unit night blocks u == 0) UnitBare (λ u. refl))
    (join is_of_delay (twice_units night blocks) (bare_places night blocks ++ twice_places night blocks) [] []
    (below_gone (unit_total night) (λ u. nat_le 2 (times_unit night blocks u)) UnitTwice (λ u. refl))
    (join is_of_delay (bare_places night blocks) (twice_places night blocks) [] []
    (below_gone (position_total night) (λ v. times_position night blocks v == 0) PlaceBare (λ v. refl))
    (below_gone (position_total night) (λ v. nat_le 2 (times_position night blocks v)) PlaceTwice (λ v. refl))))

append_none : {X : Type 0} (xs : List X) → xs ++ [] ≡ xs
append_none [] = refl
append_none {X} (x ∷ xs) = ap (λ (ys : List X). x ∷ ys) (append_none xs)

block_kept : (night : Night) (blocks : List Block) → filter is_of_delay (block_findings night blocks) ≡ too_soons night blocks
block_kept night blocks =
    join is_of_delay (wrong_types night blocks) (too_soons night blocks ++ (no_ways_in night blocks ++ no_ways_out night blocks)) [] (too_soons night blocks)
    (flat_gone (type_fault night) (λ b. WrongType b.id) blocks (λ b. refl))
    (join is_of_delay (too_soons night blocks) (no_ways_in night blocks ++ no_ways_out night blocks) (too_soons night blocks) []
    (flat_kept (λ b. is_too_soon night (shape_of b)) (λ b. TooSoon b.id) blocks (λ b. refl))
    (join is_of_delay (no_ways_in night blocks) (no_ways_out night blocks) [] []
    (flat_gone (lacks_way_in night) (λ b. NoRouteIn b.id) blocks (λ b. refl))
    (flat_gone (lacks_way_out night) (λ b. NoRouteOut b.id) blocks (λ b. refl)))
    ∙ append_none (too_soons night blocks))

clash_kept : (lengths : List ℕ) (stays : List Stay) → filter is_of_delay (clash_findings lengths stays) ≡ clash_findings lengths stays
clash_kept lengths stays = join is_of_delay (crossings stays) (too_longs lengths stays) (crossings stays) (too_longs lengths stays)
    (crossings_kept stays)
    (flat_kept (λ s. nat_lt (slice_index lengths s.track.0) (load_after stays s)) (λ s. TooLong s.id (load_after stays s)) stays (λ s. refl))

listed : (night : Night) (blocks : List Block) → delay_findings night blocks ≡ too_soons night (by_id blocks)
    ++ clash_findings (track_lengths night.station) (stays_of night (by_id blocks))
unfolding findings_in
listed night blocks =
    let clashes = clash_findings (track_lengths night.station) (stays_of night (by_id blocks)) in
    join is_of_delay (cover_findings night blocks) (block_findings night (by_id blocks) ++ clashes) [] (too_soons night (by_id blocks) ++ clashes)
    (cover_gone night blocks)
    (join is_of_delay (block_findings night (by_id blocks)) clashes (too_soons night (by_id blocks)) clashes
    (block_kept night (by_id blocks)) (clash_kept (track_lengths night.station) (stays_of night (by_id blocks))))

-- ---- there is none exactly when the blocks stay feasible

module _ (night : Night) (blocks : List Block) (formed : AreStays (stays_of night blocks)) (tracks : AreOnTracks (track_lengths night.station) (stays_of night blocks)) where
  nothing : StaysFeasible night blocks → (f : Finding) → is_of_delay f ≡ true → IsFinding night blocks f → ⊥
  nothing p (UnitBare u) k x = false≢true k
  nothing p (UnitTwice u) k x = false≢true k
  nothing p (PlaceBare v) k x = false≢true k
  nothing p (PlaceTwice v) k x = false≢true k
  nothing p (WrongType id) k x = false≢true k
  nothing p (TooSoon id) k x = false≢true (sym (p.in_time x.item x.there) ∙ x.holds)
  nothing p (NoRouteIn id) k x = false≢true k
  nothing p (NoRouteOut id) k x = false≢true k
  nothing p (Crossing i j) k x = (through_clear (track_lengths night.station) (stays_of night blocks) formed tracks p.through).0 x.item x.holds.item x.there x.holds.there
      x.holds.holds
  nothing p (TooLong id load) k x =
      let within : load_after (stays_of night blocks) x.item ≤ slice_index (track_lengths night.station) x.item.track.0 = (through_clear (track_lengths night.station)
      (stays_of night blocks) formed tracks p.through).1 x.item x.there in
      let same = x.holds.is in
      let above = x.holds.above in
      absurd (omega arith)
  nothing p (StatedCost stated real) k x = x

  pub none_where : StaysFeasible night blocks → delay_findings night blocks ≡ []
  none_where p = no_member (delay_findings night blocks) (λ f i. let r = filter_from is_of_delay (findings_in night blocks) f i in nothing p f r.1 ((exactly night blocks f).0 r.0))

  listed_one : (f : Finding) → is_of_delay f ≡ true → IsFinding night blocks f → delay_findings night blocks ≡ [] → ⊥
  listed_one f k x e = subst (λ (fs : List Finding). In f fs) e (filter_to is_of_delay (findings_in night blocks) f ((exactly night blocks f).1 x) k)

  pub where_none : delay_findings night blocks ≡ [] → StaysFeasible night blocks
  where_none e = record {
    in_time = λ b i. false_from_ne_true (is_too_soon night (shape_of b)) (λ t. listed_one (TooSoon b.id) refl (record { item = b; there = i; named = refl; holds = t }) e);
    through = clear_through (track_lengths night.station) (stays_of night blocks) formed tracks
        (λ b c i j x. listed_one (Crossing b.id c.id) refl (record { item = b; there = i; named = refl; holds = record { item = c; there = j; named = refl; holds = x } }) e)
        (λ b i. most (load_after (stays_of night blocks) b) (slice_index (track_lengths night.station) b.track.0)
        (λ above. listed_one (TooLong b.id (load_after (stays_of night blocks) b)) refl
        (record { item = b; there = i; named = refl; holds = record { is = refl; above = above } }) e));
  }
    where
      most : (m n : ℕ) → (n < m → ⊥) → m ≤ n
      most m n h = ⊎_elim (λ lt. absurd (h lt)) (λ le. le) (cases_lt n m)

-- ---- the first of a list

pub first_none : (fs : List Finding) → first fs ≡ None → fs ≡ []
first_none [] e = refl
first_none (f ∷ fs) e = absurd (cc)

none_some : (f : Finding) → None ≡ Some f → ⊥
none_some f e = absurd (cc)

pub no_first : (fs : List Finding) (f : Finding) → fs ≡ [] → first fs ≡ Some f → ⊥
no_first fs f e some = none_some f (sym (ap first e) ∙ some)

first_passes : (fs : List Finding) (f : Finding) → first fs ≡ Some f → In f fs
first_passes [] f e = absurd (none_some f e)
first_passes (g ∷ fs) f e = inl (same g f e)
  where
    same : (g f : Finding) → Some g ≡ Some f → f ≡ g
    same g f e = cc

pub passes : (night : Night) (blocks : List Block) (f : Finding) → first (delay_findings night blocks) ≡ Some f → is_of_delay f ≡ true
passes night blocks f e = (filter_from is_of_delay (findings_in night blocks) f (first_passes (delay_findings night blocks) f e)).1

left : (xs ys : List Finding) (o : Option Finding) → o ≡ first xs → is_some o ≡ true → o ≡ first (xs ++ ys)
left [] ys o e t = absurd (false≢true (sym (ap is_some e) ∙ t))
left (f ∷ xs) ys o e t = e

right : (xs ys : List Finding) (o : Option Finding) → o ≡ first xs → is_some o ≡ false → first (xs ++ ys) ≡ first ys
right [] ys o e t = refl
right (f ∷ xs) ys o e t = absurd (false≢true (sym t ∙ ap is_some e))

-- ---- what the code gives

sorted_list : (night : Night) (blocks : List Block) → by_id blocks ≡ blocks → delay_findings night blocks ≡ too_soons night blocks
    ++ clash_findings (track_lengths night.station) (stays_of night blocks)
sorted_list night blocks e = listed night blocks ∙ ap (λ (bs : List Block). too_soons night bs ++ clash_findings (track_lengths night.station) (stays_of night bs)) e

pub at_soon : (night : Night) (blocks : List Block) (o : Option Finding) → by_id blocks ≡ blocks → o ≡ first (too_soons night blocks) → is_some o ≡ true
    → o ≡ first (delay_findings night blocks)
at_soon night blocks o s e t = left (too_soons night blocks) (clash_findings (track_lengths night.station) (stays_of night blocks)) o e t
    ∙ sym (ap first (sorted_list night blocks s))

after_soon : (night : Night) (blocks : List Block) (o : Option Finding) → by_id blocks ≡ blocks → o ≡ first (too_soons night blocks) → is_some o ≡ false
    → first (delay_findings night blocks) ≡ first (clash_findings (track_lengths night.station) (stays_of night blocks))
after_soon night blocks o s e t = ap first (sorted_list night blocks s) ∙ right (too_soons night blocks)
    (clash_findings (track_lengths night.station) (stays_of night blocks)) o e t

pub at_crossing : (night : Night) (blocks : List Block) (o p : Option Finding) → by_id blocks ≡ blocks → o ≡ first (too_soons night blocks) → is_some o ≡ false
    → p ≡ first (crossings (stays_of night blocks)) → is_some p ≡ true → p ≡ first (delay_findings night blocks)
at_crossing night blocks o p s e t f u = left (crossings (stays_of night blocks)) (too_longs (track_lengths night.station) (stays_of night blocks)) p f u
    ∙ sym (after_soon night blocks o s e t)

pub at_long : (night : Night) (blocks : List Block) (o p q : Option Finding) → by_id blocks ≡ blocks → o ≡ first (too_soons night blocks) → is_some o ≡ false
    → p ≡ first (crossings (stays_of night blocks)) → is_some p ≡ false → q ≡ first (too_longs (track_lengths night.station) (stays_of night blocks))
    → q ≡ first (delay_findings night blocks)
at_long night blocks o p q s e t f u g = g ∙ sym (right (crossings (stays_of night blocks)) (too_longs (track_lengths night.station) (stays_of night blocks)) p f u)
    ∙ sym (after_soon night blocks o s e t)

-- ---- searching from the front

parts_none : (xs ys : List Finding) → xs ++ ys ≡ [] → (xs ≡ []) × (ys ≡ [])
parts_none [] ys e = (refl, e)
parts_none (x ∷ xs) ys e = absurd (cc)

pub seen_some : {X : Type 0} (note : X → List Finding) (xs : List X) (k : ℕ) (d x : X) (o : Option Finding) → k < length xs → x ≡ get_or xs k d → flat_map note (take k xs) ≡ []
    → o ≡ first (note x) → is_some o ≡ true → o ≡ first (flat_map note xs)
seen_some note [] k d x o lt is before e t = absurd (omega arith)
seen_some {X} note (y ∷ ys) zero d x o lt is before e t = left (note y) (flat_map note ys) o (e ∙ ap (λ (z : X). first (note z)) is) t ∙ sym (ap first (flat_map-cons note y ys))
seen_some note (y ∷ ys) (suc k) d x o lt is before e t =
    let r = parts_none (note y) (flat_map note (take k ys)) (sym (flat_map-cons note y (take k ys)) ∙ before) in
    seen_some note ys k d x o (omega arith) is r.1 e t ∙ sym (ap first (flat_map-cons note y ys) ∙ ap (λ (fs : List Finding). first (fs ++ flat_map note ys)) r.0)

first_noted : (t : Bool) (f : Finding) → t ≡ true → Some f ≡ first (noted t f)
first_noted true f e = refl
first_noted false f e = absurd (false≢true e)

pub at_too_soon : (night : Night) (blocks : List Block) (k : ℕ) (d : Block) (t : Bool) → k < length blocks → too_soons night (take k blocks) ≡ []
    → t ≡ is_too_soon night (shape_of (get_or blocks k d)) → t ≡ true → Some (TooSoon (get_or blocks k d).id) ≡ first (too_soons night blocks)
at_too_soon night blocks k d t lt before e held =
    seen_some (λ (b : Block). noted (is_too_soon night (shape_of b)) (TooSoon b.id)) blocks k d (get_or blocks k d) (Some (TooSoon (get_or blocks k d).id)) lt refl before
    (first_noted (is_too_soon night (shape_of (get_or blocks k d))) (TooSoon (get_or blocks k d).id) (sym e ∙ held)) refl

pub at_crosser : (stays : List Stay) (e : Stay) (k : ℕ) (d : Stay) (t : Bool) → k < length stays → crossings_of (take k stays) e ≡ [] → t ≡ crosses e (get_or stays k d) → t ≡ true
    → Some (Crossing e.id (get_or stays k d).id) ≡ first (crossings_of stays e)
at_crosser stays e k d t lt before is held =
    seen_some (λ (c : Stay). noted (crosses e c) (Crossing e.id c.id)) stays k d (get_or stays k d) (Some (Crossing e.id (get_or stays k d).id)) lt refl before
    (first_noted (crosses e (get_or stays k d)) (Crossing e.id (get_or stays k d).id) (sym is ∙ held)) refl

pub at_pair : (stays : List Stay) (k : ℕ) (d : Stay) (o : Option Finding) → k < length stays → flat_map (crossings_of stays) (take k stays) ≡ []
    → o ≡ first (crossings_of stays (get_or stays k d)) → is_some o ≡ true → o ≡ first (crossings stays)
at_pair stays k d o lt before is held = seen_some (crossings_of stays) stays k d (get_or stays k d) o lt refl before is held

-- a stay of another train is met by the late train's stays alone
flat_filtered : {X : Type 0} (p : X → Bool) (note : X → List Finding) (xs : List X) → ((x : X) → In x xs → p x ≡ false → note x ≡ [])
    → flat_map note (filter p xs) ≡ flat_map note xs
flat_filtered p note [] none = refl
flat_filtered {X} p note (x ∷ xs) none = elim (cases_Bool (p x)) [
  | inl held ↦ ap (flat_map note) (filter_yes p x xs held) ∙ flat_map-cons note x (filter p xs)
      ∙ ap (λ (fs : List Finding). note x ++ fs) (flat_filtered p note xs (λ y i. none y (inr i))) ∙ sym (flat_map-cons note x xs)
  | inr apart ↦ ap (flat_map note) (filter_no p x xs apart) ∙ flat_filtered p note xs (λ y i. none y (inr i))
      ∙ sym (flat_map-cons note x xs ∙ ap (λ (fs : List Finding). fs ++ flat_map note xs) (none x (inl refl) apart))
]

pub own_crossers : (i : ℕ) (stays own : List Stay) (b : Stay) (o : Option Finding) → own ≡ filter (of_train i) stays → AreOthersApart i stays → In b stays → b.enter.train ≢ i
    → o ≡ first (crossings_of own b) → o ≡ first (crossings_of stays b)
own_crossers i stays own b o is apart there other e =
    e ∙ ap (λ (l : List Stay). first (crossings_of l b)) is ∙ ap first (flat_filtered (of_train i) (λ (c : Stay). noted (crosses b c) (Crossing b.id c.id)) stays
    (λ c j p. ap (λ (t : Bool). noted t (Crossing b.id c.id)) (apart b c there j (ne_eqb b.enter.train i other) p)))

-- the entries of other trains fit, so that only the late train's may not
pub own_longs : (i : ℕ) (lengths : List ℕ) (stays own : List Stay) → own ≡ filter (of_train i) stays → AreOthersWithin i lengths stays
    → too_longs_of lengths stays own ≡ too_longs lengths stays
own_longs i lengths stays own is within = ap (too_longs_of lengths stays) is ∙ flat_filtered (of_train i) (λ (s : Stay). too_long_at lengths s (load_after stays s)) stays
    (λ s j p. ap (λ (t : Bool). noted t (TooLong s.id (load_after stays s))) (false_from_ne_true (nat_lt (slice_index lengths s.track.0) (load_after stays s))
    (λ t. let fits = within s j p in absurd (omega (arith, ltb-true (slice_index lengths s.track.0) (load_after stays s) t)))))

pub at_over : (lengths : List ℕ) (stays own : List Stay) (k : ℕ) (d : Stay) (load room : ℕ) → k < length own → too_longs_of lengths stays (take k own) ≡ []
    → too_longs_of lengths stays own ≡ too_longs lengths stays
    → load ≡ load_after stays (get_or own k d) → room ≡ slice_index lengths (get_or own k d).track.0 → room < load
    → Some (TooLong (get_or own k d).id load) ≡ first (too_longs lengths stays)
at_over lengths stays own k d load room lt before alone is track above =
    let s = get_or own k d in
    let over : slice_index lengths s.track.0 < load_after stays s = omega arith in
    ap (λ (n : ℕ). Some (TooLong s.id n)) is
    ∙ seen_some (λ (s : Stay). too_long_at lengths s (load_after stays s)) own k d s (Some (TooLong s.id (load_after stays s))) lt refl before
    (first_noted (nat_lt (slice_index lengths s.track.0) (load_after stays s)) (TooLong s.id (load_after stays s))
    (lt_true (slice_index lengths s.track.0) (load_after stays s) over)) refl
    ∙ ap first alone

pub none_over : (lengths : List ℕ) (stays own : List Stay) (k : ℕ) → length own ≤ k → too_longs_of lengths stays (take k own) ≡ []
    → too_longs_of lengths stays own ≡ too_longs lengths stays → None ≡ first (too_longs lengths stays)
none_over lengths stays own k le before alone = sym (ap first (sym alone ∙ ap (too_longs_of lengths stays) (sym (take_all k own le)) ∙ before))
