-- The list of findings has them and no others, in their order.
use Rattle.std.proofs.Common.{◌≡◌, inl, inr, ⊎_elim, ◌↔◌, ℕ, ◌<◌, Bool, true, cond, List, [], ◌++◌, refl, sym, subst, ap, ◌∙◌, arith, IsPermutation}
use Rattle.std.specs.List.{flat_map, count_by}
use Rattle.std.specs.Prelude.{IsTrue, IsSome, is_some, not, ◌&&◌, ◌==◌, nat_le, nat_lt, slice_index, Option, Some, None}
use Rattle.std.proofs.lemmas.Bool.{eqb-true, eq-eqb, leb-true, le-leb, ltb-true, lt-ltb}
use Rattle.std.proofs.lemmas.List.{append_assoc}
use Rattle.std.proofs.lemmas.List.Sorted.{sum_by-IsPermutation, IsPermutation-sym}
use Rattle.shunt_lists.proofs.Members.{in_left, in_right, in_cases, of_flat, in_flat}
use Rattle.shunt_lists.specs.defs.Members.{In, Ascends}
use Rattle.shunt_base.specs.declared.keys.Stay.{Stay}
use Rattle.shunt_stays.specs.defs.Crossings.{Crosses, crosses, load_after}
use Rattle.shunt_stays.proofs.Crossings.{crosses_is}
use Rattle.shunt_stays.proofs.SortedEvents.{in_permuted}
use Rattle.shunt_instance.specs.defs.Instance.{Night, unit_total, position_total}
use Rattle.shunt_blocks.specs.declared.records.Block.{Block}
use Rattle.shunt_blocks.specs.declared.records.Park.{Park}
use Rattle.shunt_blocks.specs.defs.Shapes.{shape_of}
use Rattle.shunt_blocks.specs.defs.Ways.{way_in, way_out}
use Rattle.shunt_blocks.specs.defs.Blocks.{type_fault}
use Rattle.shunt_blocks.specs.defs.Stays.{is_too_soon, stay_of}
use Rattle.shunt_blocks.specs.defs.Lists.{has_unit, has_position, times_unit, times_position, track_lengths, stays_of, AreInRange}
use Rattle.shunt_audit.specs.declared.types.Finding.{Finding}
use Rattle.shunt_audit.specs.declared.types.Finding.TheVariants.{UnitBare, UnitTwice, PlaceBare, PlaceTwice, WrongType, TooSoon, NoRouteIn, NoRouteOut, Crossing, TooLong, StatedCost}
use Rattle.shunt_audit.specs.defs.Findings.{HasBlock, HasStay, IsOver, IsFinding, kind_of, FindingBefore, AreSorted}
use Rattle.shunt_audit.specs.defs.Listed.{noted, noted_below, by_id, lacks_way_in, lacks_way_out, bare_units, twice_units, bare_places, twice_places, wrong_types, too_soons, no_ways_in, no_ways_out, crossings_of, crossings, too_longs, cover_findings, block_findings, clash_findings, findings_in}
use Rattle.shunt_audit.proofs.Lists.{of_flat_noted, to_flat_noted, of_below_noted, to_below_noted}
use Rattle.shunt_audit.proofs.ById.{id_of, apart, moves, there, ascends, range_permuted}
use Rattle.shunt_audit.proofs.BlockStays.{stay_number, ascending_stays, load_permuted}
use Rattle.shunt_audit.proofs.Order.{Rising, in_order, of_order, unique, IsStretch, one_kind, joined, below_rises, flat_rises, flat_noted_rises}
use Rattle.shunt_lists.proofs.Options.{of_some, to_some}

-- ---- tests

lacks_from : (o : Option Park) (w : Option ℕ) → (is_some o && not (is_some w)) ≡ true → IsSome o × (w ≡ None)
lacks_from None w e = absurd (cc)
lacks_from (Some k) None e = (refl, refl)
lacks_from (Some k) (Some n) e = absurd (cc)

lacks_to : (o : Option Park) (w : Option ℕ) → IsSome o × (w ≡ None) → (is_some o && not (is_some w)) ≡ true
lacks_to None w h = h.0
lacks_to (Some k) None h = refl
lacks_to (Some k) (Some n) h = absurd (let e = h.1 in cc)

-- ---- the stays of the sorted blocks are those of the blocks

stays_there : (night : Night) (blocks : List Block) (s : Stay) → In s (stays_of night (by_id blocks)) ↔ In s (stays_of night blocks)
stays_there night blocks s = (
  λ i. let r = of_some (stay_of night) (by_id blocks) s i in to_some (stay_of night) blocks r.0 s ((there blocks r.0).0 r.1) r.2,
  λ i. let r = of_some (stay_of night) blocks s i in to_some (stay_of night) (by_id blocks) r.0 s ((there blocks r.0).1 r.1) r.2,
)

-- ---- each of the list is a finding

module _ (night : Night) (blocks : List Block) where
  abbrev sorted : List Block
  sorted = by_id blocks

  abbrev standing : List Stay
  standing = stays_of night sorted

  abbrev lengths : List ℕ
  lengths = track_lengths night.station

  abbrev Finds : Finding → Type 0
  Finds f = IsFinding night blocks f

  cover_from : (f : Finding) → In f (cover_findings night blocks) → Finds f
  cover_from f h =
      ⊎_elim (λ i. let r = of_below_noted (unit_total night) (λ u. times_unit night blocks u == 0) UnitBare f i in subst Finds (sym r.3)
      (r.1, eqb-true (times_unit night blocks r.0) 0 r.2))
      (λ h. ⊎_elim (λ i. let r = of_below_noted (unit_total night) (λ u. nat_le 2 (times_unit night blocks u)) UnitTwice f i in subst Finds (sym r.3)
      (r.1, leb-true 2 (times_unit night blocks r.0) r.2))
      (λ h. ⊎_elim (λ i. let r = of_below_noted (position_total night) (λ v. times_position night blocks v == 0) PlaceBare f i in subst Finds (sym r.3)
      (r.1, eqb-true (times_position night blocks r.0) 0 r.2))
      (λ i. let r = of_below_noted (position_total night) (λ v. nat_le 2 (times_position night blocks v)) PlaceTwice f i in subst Finds (sym r.3)
      (r.1, leb-true 2 (times_position night blocks r.0) r.2))
      (in_cases (bare_places night blocks) (twice_places night blocks) f h))
      (in_cases (twice_units night blocks) (bare_places night blocks ++ twice_places night blocks) f h))
      (in_cases (bare_units night blocks) (twice_units night blocks ++ (bare_places night blocks ++ twice_places night blocks)) f h)

  of_block : (Holds : Block → Type 0) (b : Block) → In b sorted → Holds b → HasBlock blocks b.id Holds
  of_block Holds b i h = record { item = b; there = (there blocks b).0 i; named = refl; holds = h }

  block_from : (f : Finding) → In f (block_findings night sorted) → Finds f
  block_from f h =
      ⊎_elim (λ i. let r = of_flat_noted (type_fault night) (λ b. WrongType b.id) sorted f i in subst Finds (sym r.3) (of_block (λ b. IsTrue (type_fault night b)) r.0 r.1 r.2))
      (λ h. ⊎_elim (λ i. let r = of_flat_noted (λ b. is_too_soon night (shape_of b)) (λ b. TooSoon b.id) sorted f i in subst Finds (sym r.3)
      (of_block (λ b. IsTrue (is_too_soon night (shape_of b))) r.0 r.1 r.2))
      (λ h. ⊎_elim (λ i. let r = of_flat_noted (lacks_way_in night) (λ b. NoRouteIn b.id) sorted f i in subst Finds (sym r.3)
      (of_block (λ b. IsSome b.park × (way_in night b ≡ None)) r.0 r.1 (lacks_from r.0.park (way_in night r.0) r.2)))
      (λ i. let r = of_flat_noted (lacks_way_out night) (λ b. NoRouteOut b.id) sorted f i in subst Finds (sym r.3)
      (of_block (λ b. IsSome b.park × (way_out night b ≡ None)) r.0 r.1 (lacks_from r.0.park (way_out night r.0) r.2)))
      (in_cases (no_ways_in night sorted) (no_ways_out night sorted) f h))
      (in_cases (too_soons night sorted) (no_ways_in night sorted ++ no_ways_out night sorted) f h))
      (in_cases (wrong_types night sorted) (too_soons night sorted ++ (no_ways_in night sorted ++ no_ways_out night sorted)) f h)

  of_stay : (Holds : Stay → Type 0) (s : Stay) → In s standing → Holds s → HasStay (stays_of night blocks) s.id Holds
  of_stay Holds s i h = record { item = s; there = (stays_there night blocks s).0 i; named = refl; holds = h }

  same_load : (s : Stay) → load_after standing s ≡ load_after (stays_of night blocks) s
  same_load s = load_permuted night blocks sorted s (moves blocks)

  crossing_from : (f : Finding) → In f (crossings standing) → Finds f
  crossing_from f h =
      let b = of_flat (crossings_of standing) standing f h in
      let c = of_flat_noted (crosses b.0) (λ c. Crossing b.0.id c.id) standing f b.2 in
      subst Finds (sym c.3) (of_stay (λ s. HasStay (stays_of night blocks) c.0.id (Crosses s)) b.0 b.1 (of_stay (Crosses b.0) c.0 c.1 ((crosses_is b.0 c.0).0 c.2)))

  long_from : (f : Finding) → In f (too_longs lengths standing) → Finds f
  long_from f h =
      let r = of_flat_noted (λ s. nat_lt (slice_index lengths s.track.0) (load_after standing s)) (λ s. TooLong s.id (load_after standing s)) standing f h in
      subst Finds (sym r.3) (of_stay (IsOver lengths (stays_of night blocks) (load_after standing r.0)) r.0 r.1
      (record { is = same_load r.0; above = ltb-true (slice_index lengths r.0.track.0) (load_after standing r.0) r.2 }))

  pub listed_from : (f : Finding) → In f (findings_in night blocks) → IsFinding night blocks f
  unfolding findings_in
  listed_from f h =
      ⊎_elim (λ i. cover_from f i)
      (λ h. ⊎_elim (λ i. block_from f i)
      (λ h. ⊎_elim (λ i. crossing_from f i) (λ i. long_from f i) (in_cases (crossings standing) (too_longs lengths standing) f h))
      (in_cases (block_findings night sorted) (clash_findings lengths standing) f h))
      (in_cases (cover_findings night blocks) (block_findings night sorted ++ clash_findings lengths standing) f h)

  -- ---- each finding is in the list

  covered : (f : Finding) → In f (cover_findings night blocks) → In f (findings_in night blocks)
  unfolding findings_in
  covered f i = in_left (cover_findings night blocks) (block_findings night sorted ++ clash_findings lengths standing) f i

  blocked : (f : Finding) → In f (block_findings night sorted) → In f (findings_in night blocks)
  unfolding findings_in
  blocked f i = in_right (cover_findings night blocks) (block_findings night sorted ++ clash_findings lengths standing) f
      (in_left (block_findings night sorted) (clash_findings lengths standing) f i)

  clashed : (f : Finding) → In f (clash_findings lengths standing) → In f (findings_in night blocks)
  unfolding findings_in
  clashed f i = in_right (cover_findings night blocks) (block_findings night sorted ++ clash_findings lengths standing) f
      (in_right (block_findings night sorted) (clash_findings lengths standing) f i)

  crossed : (i j : ℕ) → IsFinding night blocks (Crossing i j) → In (Crossing i j) (crossings standing)
  crossed i j h =
      let c = h.holds in
      let b = h.item in
      let d = c.item in
      subst (λ (n : ℕ). In (Crossing n j) (crossings standing)) h.named
      (subst (λ (n : ℕ). In (Crossing b.id n) (crossings standing)) c.named
      (in_flat (crossings_of standing) standing b (Crossing b.id d.id) ((stays_there night blocks b).1 h.there)
      (to_flat_noted (crosses b) (λ c. Crossing b.id c.id) standing d ((stays_there night blocks d).1 c.there) ((crosses_is b d).1 c.holds))))

  over : (id load : ℕ) → IsFinding night blocks (TooLong id load) → In (TooLong id load) (too_longs lengths standing)
  over id load h =
      let s = h.item in
      let same : load_after standing s ≡ load = same_load s ∙ sym h.holds.is in
      subst (λ (n : ℕ). In (TooLong n load) (too_longs lengths standing)) h.named
      (subst (λ (n : ℕ). In (TooLong s.id n) (too_longs lengths standing)) same
      (to_flat_noted (λ s. nat_lt (slice_index lengths s.track.0) (load_after standing s)) (λ s. TooLong s.id (load_after standing s)) standing s
      ((stays_there night blocks s).1 h.there)
      (lt-ltb (slice_index lengths s.track.0) (load_after standing s) (subst (λ (n : ℕ). slice_index lengths s.track.0 < n) (sym same) h.holds.above))))

  pub listed_to : (f : Finding) → IsFinding night blocks f → In f (findings_in night blocks)
  listed_to (UnitBare u) h = covered (UnitBare u) (in_left (bare_units night blocks) (twice_units night blocks ++ (bare_places night blocks ++ twice_places night blocks))
      (UnitBare u) (to_below_noted (unit_total night) (λ u. times_unit night blocks u == 0) UnitBare u h.0 (eq-eqb (times_unit night blocks u) 0 h.1)))
  listed_to (UnitTwice u) h = covered (UnitTwice u) (in_right (bare_units night blocks) (twice_units night blocks ++ (bare_places night blocks ++ twice_places night blocks))
      (UnitTwice u)
      (in_left (twice_units night blocks) (bare_places night blocks ++ twice_places night blocks) (UnitTwice u)
      (to_below_noted (unit_total night) (λ u. nat_le 2 (times_unit night blocks u)) UnitTwice u h.0 (le-leb 2 (times_unit night blocks u) h.1))))
  listed_to (PlaceBare v) h = covered (PlaceBare v) (in_right (bare_units night blocks) (twice_units night blocks ++ (bare_places night blocks ++ twice_places night blocks))
      (PlaceBare v)
      (in_right (twice_units night blocks) (bare_places night blocks ++ twice_places night blocks) (PlaceBare v)
      (in_left (bare_places night blocks) (twice_places night blocks) (PlaceBare v)
      (to_below_noted (position_total night) (λ v. times_position night blocks v == 0) PlaceBare v h.0 (eq-eqb (times_position night blocks v) 0 h.1)))))
  listed_to (PlaceTwice v) h = covered (PlaceTwice v) (in_right (bare_units night blocks) (twice_units night blocks ++ (bare_places night blocks ++ twice_places night blocks))
      (PlaceTwice v)
      (in_right (twice_units night blocks) (bare_places night blocks ++ twice_places night blocks) (PlaceTwice v)
      (in_right (bare_places night blocks) (twice_places night blocks) (PlaceTwice v)
      (to_below_noted (position_total night) (λ v. nat_le 2 (times_position night blocks v)) PlaceTwice v h.0 (le-leb 2 (times_position night blocks v) h.1)))))
  listed_to (WrongType id) h = subst (λ (n : ℕ). In (WrongType n) (findings_in night blocks)) h.named
      (blocked (WrongType h.item.id) (in_left (wrong_types night sorted) (too_soons night sorted ++ (no_ways_in night sorted ++ no_ways_out night sorted)) (WrongType h.item.id)
      (to_flat_noted (type_fault night) (λ b. WrongType b.id) sorted h.item ((there blocks h.item).1 h.there) h.holds)))
  listed_to (TooSoon id) h = subst (λ (n : ℕ). In (TooSoon n) (findings_in night blocks)) h.named
      (blocked (TooSoon h.item.id) (in_right (wrong_types night sorted) (too_soons night sorted ++ (no_ways_in night sorted ++ no_ways_out night sorted)) (TooSoon h.item.id)
      (in_left (too_soons night sorted) (no_ways_in night sorted ++ no_ways_out night sorted) (TooSoon h.item.id)
      (to_flat_noted (λ b. is_too_soon night (shape_of b)) (λ b. TooSoon b.id) sorted h.item ((there blocks h.item).1 h.there) h.holds))))
  listed_to (NoRouteIn id) h = subst (λ (n : ℕ). In (NoRouteIn n) (findings_in night blocks)) h.named
      (blocked (NoRouteIn h.item.id) (in_right (wrong_types night sorted) (too_soons night sorted ++ (no_ways_in night sorted ++ no_ways_out night sorted)) (NoRouteIn h.item.id)
      (in_right (too_soons night sorted) (no_ways_in night sorted ++ no_ways_out night sorted) (NoRouteIn h.item.id)
      (in_left (no_ways_in night sorted) (no_ways_out night sorted) (NoRouteIn h.item.id)
      (to_flat_noted (lacks_way_in night) (λ b. NoRouteIn b.id) sorted h.item ((there blocks h.item).1 h.there) (lacks_to h.item.park (way_in night h.item) h.holds))))))
  listed_to (NoRouteOut id) h = subst (λ (n : ℕ). In (NoRouteOut n) (findings_in night blocks)) h.named
      (blocked (NoRouteOut h.item.id) (in_right (wrong_types night sorted) (too_soons night sorted ++ (no_ways_in night sorted ++ no_ways_out night sorted)) (NoRouteOut h.item.id)
      (in_right (too_soons night sorted) (no_ways_in night sorted ++ no_ways_out night sorted) (NoRouteOut h.item.id)
      (in_right (no_ways_in night sorted) (no_ways_out night sorted) (NoRouteOut h.item.id)
      (to_flat_noted (lacks_way_out night) (λ b. NoRouteOut b.id) sorted h.item ((there blocks h.item).1 h.there) (lacks_to h.item.park (way_out night h.item) h.holds))))))
  listed_to (Crossing i j) h = clashed (Crossing i j) (in_left (crossings standing) (too_longs lengths standing) (Crossing i j) (crossed i j h))
  listed_to (TooLong id load) h = clashed (TooLong id load) (in_right (crossings standing) (too_longs lengths standing) (TooLong id load) (over id load h))
  listed_to (StatedCost stated real) h = absurd h

-- ---- in their order

of_kind : {X : Type 0} (k : ℕ) (note : X → Finding) (f : Finding) (x : X) → ((x : X) → kind_of (note x) ≡ k) → f ≡ note x → kind_of f ≡ k
of_kind k note f x same e = ap kind_of e ∙ same x

numbers : (k n : ℕ) (t : ℕ → Bool) (note : ℕ → Finding) → ((x : ℕ) → kind_of (note x) ≡ k) → ((i j : ℕ) → i < j → FindingBefore (note i) (note j))
    → IsStretch k k (noted_below n (λ x. noted (t x) (note x)))
numbers k n t note same rise = one_kind k (noted_below n (λ x. noted (t x) (note x))) (below_rises n t note rise)
    (λ f i. let r = of_below_noted n t note f i in of_kind k note f r.0 same r.3)

items : {X : Type 0} (k : ℕ) (at : X → ℕ) (t : X → Bool) (note : X → Finding) (xs : List X) → Ascends at xs → ((x : X) → kind_of (note x) ≡ k)
    → ((x y : X) → at x < at y → FindingBefore (note x) (note y)) → IsStretch k k (flat_map (λ x. noted (t x) (note x)) xs)
items k at t note xs a same rise = one_kind k (flat_map (λ x. noted (t x) (note x)) xs) (flat_noted_rises at t note xs a rise)
    (λ f i. let r = of_flat_noted t note xs f i in of_kind k note f r.0 same r.3)

cover_stretch : (night : Night) (blocks : List Block) → IsStretch 1 4 (cover_findings night blocks)
cover_stretch night blocks =
    joined 1 1 2 4 (bare_units night blocks) (twice_units night blocks ++ (bare_places night blocks ++ twice_places night blocks)) (omega arith) (omega arith) (omega arith)
    (numbers 1 (unit_total night) (λ u. times_unit night blocks u == 0) UnitBare (λ u. refl) (λ i j lt. inr (refl, inl lt)))
    (joined 2 2 3 4 (twice_units night blocks) (bare_places night blocks ++ twice_places night blocks) (omega arith) (omega arith) (omega arith)
    (numbers 2 (unit_total night) (λ u. nat_le 2 (times_unit night blocks u)) UnitTwice (λ u. refl) (λ i j lt. inr (refl, inl lt)))
    (joined 3 3 4 4 (bare_places night blocks) (twice_places night blocks) (omega arith) (omega arith) (omega arith)
    (numbers 3 (position_total night) (λ v. times_position night blocks v == 0) PlaceBare (λ v. refl) (λ i j lt. inr (refl, inl lt)))
    (numbers 4 (position_total night) (λ v. nat_le 2 (times_position night blocks v)) PlaceTwice (λ v. refl) (λ i j lt. inr (refl, inl lt)))))

block_stretch : (night : Night) (blocks : List Block) → Ascends id_of blocks → IsStretch 5 8 (block_findings night blocks)
block_stretch night blocks a =
    joined 5 5 6 8 (wrong_types night blocks) (too_soons night blocks ++ (no_ways_in night blocks ++ no_ways_out night blocks)) (omega arith) (omega arith) (omega arith)
    (items 5 id_of (type_fault night) (λ b. WrongType b.id) blocks a (λ b. refl) (λ b c lt. inr (refl, inl lt)))
    (joined 6 6 7 8 (too_soons night blocks) (no_ways_in night blocks ++ no_ways_out night blocks) (omega arith) (omega arith) (omega arith)
    (items 6 id_of (λ b. is_too_soon night (shape_of b)) (λ b. TooSoon b.id) blocks a (λ b. refl) (λ b c lt. inr (refl, inl lt)))
    (joined 7 7 8 8 (no_ways_in night blocks) (no_ways_out night blocks) (omega arith) (omega arith) (omega arith)
    (items 7 id_of (lacks_way_in night) (λ b. NoRouteIn b.id) blocks a (λ b. refl) (λ b c lt. inr (refl, inl lt)))
    (items 8 id_of (lacks_way_out night) (λ b. NoRouteOut b.id) blocks a (λ b. refl) (λ b c lt. inr (refl, inl lt)))))

of_crossing : (stays : List Stay) (b : Stay) (f : Finding) → In f (crossings_of stays b) → (c : Stay) × (f ≡ Crossing b.id c.id)
of_crossing stays b f i = let r = of_flat_noted (crosses b) (λ c. Crossing b.id c.id) stays f i in (r.0, r.3)

crossings_stretch : (stays : List Stay) → Ascends stay_number stays → IsStretch 9 9 (crossings stays)
crossings_stretch stays a = one_kind 9 (crossings stays)
    (flat_rises stay_number (crossings_of stays) stays a
    (λ b. flat_noted_rises stay_number (crosses b) (λ c. Crossing b.id c.id) stays a (λ c d lt. inr (refl, inr (refl, lt))))
    (λ b c f g lt i j. let x = of_crossing stays b f i in let y = of_crossing stays c g j in
    subst (λ (m : Finding). FindingBefore m g) (sym x.1) (subst (FindingBefore (Crossing b.id x.0.id)) (sym y.1) (inr (refl, inl lt)))))
    (λ f i. let r = of_flat (crossings_of stays) stays f i in let x = of_crossing stays r.0 f r.2 in ap kind_of x.1)

clash_stretch : (lengths : List ℕ) (stays : List Stay) → Ascends stay_number stays → IsStretch 9 10 (clash_findings lengths stays)
clash_stretch lengths stays a =
    joined 9 9 10 10 (crossings stays) (too_longs lengths stays) (omega arith) (omega arith) (omega arith) (crossings_stretch stays a)
    (items 10 stay_number (λ s. nat_lt (slice_index lengths s.track.0) (load_after stays s)) (λ s. TooLong s.id (load_after stays s)) stays a (λ s. refl)
    (λ s t lt. inr (refl, inl lt)))

pub listed_stretch : (night : Night) (blocks : List Block) → AreInRange night blocks → IsStretch 1 10 (findings_in night blocks)
unfolding findings_in
listed_stretch night blocks h =
    let a = ascends blocks (apart blocks h.ids) in
    joined 1 4 5 10 (cover_findings night blocks) (block_findings night (by_id blocks) ++ clash_findings (track_lengths night.station) (stays_of night (by_id blocks)))
    (omega arith) (omega arith) (omega arith)
    (cover_stretch night blocks)
    (joined 5 8 9 10 (block_findings night (by_id blocks)) (clash_findings (track_lengths night.station) (stays_of night (by_id blocks))) (omega arith) (omega arith) (omega arith)
    (block_stretch night (by_id blocks) a)
    (clash_stretch (track_lengths night.station) (stays_of night (by_id blocks)) (ascending_stays night (by_id blocks) a)))

listed_rises : (night : Night) (blocks : List Block) → AreInRange night blocks → Rising (findings_in night blocks)
listed_rises night blocks h = (listed_stretch night blocks h).rises

-- ---- what the law says

pub exactly : (night : Night) (blocks : List Block) (f : Finding) → In f (findings_in night blocks) ↔ IsFinding night blocks f
exactly night blocks f = (λ i. listed_from night blocks f i, λ h. listed_to night blocks f h)

pub ordered : (night : Night) (blocks : List Block) → AreInRange night blocks → AreSorted (findings_in night blocks)
ordered night blocks h = in_order (findings_in night blocks) (listed_rises night blocks h)

pub only_one : (night : Night) (blocks : List Block) (fs : List Finding) → AreInRange night blocks → AreSorted fs → ((f : Finding) → In f fs ↔ IsFinding night blocks f)
    → fs ≡ findings_in night blocks
only_one night blocks fs h order same =
    unique fs (findings_in night blocks) (of_order fs order) (listed_rises night blocks h)
    (λ f. (λ i. listed_to night blocks f ((same f).0 i), λ i. (same f).1 (listed_from night blocks f i)))

-- what the code puts together
pub together : (night : Night) (blocks sorted : List Block) (stays : List Stay) (start x y z : List Finding) → sorted ≡ by_id blocks → stays ≡ stays_of night sorted → start ≡ []
    → x ≡ start ++ cover_findings night blocks → y ≡ x ++ block_findings night sorted → z ≡ y ++ clash_findings (track_lengths night.station) stays → z ≡ findings_in night blocks
unfolding findings_in
together night blocks ordered_blocks stays start x y z s t none ex ey ez =
    ez ∙ ap (λ (l : List Stay). y ++ clash_findings (track_lengths night.station) l) (t ∙ ap (stays_of night) s)
    ∙ ap (λ (l : List Finding). l ++ clashes) (ey ∙ ap (λ (bs : List Block). x ++ block_findings night bs) s
    ∙ ap (λ (l : List Finding). l ++ block_findings night (by_id blocks)) (ex ∙ ap (λ (l : List Finding). l ++ cover_findings night blocks) none))
    ∙ append_assoc (cover_findings night blocks) (block_findings night (by_id blocks)) clashes
  where
    clashes : List Finding
    clashes = clash_findings (track_lengths night.station) (stays_of night (by_id blocks))

-- ---- the order of the blocks

module _ (night : Night) (blocks others : List Block) (p : IsPermutation blocks others) where
  times : (t : Block → Bool) → count_by t others ≡ count_by t blocks
  times t = sum_by-IsPermutation (λ b. cond (t b) 1 0) blocks others p

  block_moved : (Holds : Block → Type 0) (id : ℕ) → HasBlock blocks id Holds → HasBlock others id Holds
  block_moved Holds id h = record { item = h.item; there = in_permuted blocks others h.item p h.there; named = h.named; holds = h.holds }

  stay_moved : (s : Stay) → In s (stays_of night blocks) → In s (stays_of night others)
  stay_moved s i = let r = of_some (stay_of night) blocks s i in to_some (stay_of night) others r.0 s (in_permuted blocks others r.0 p r.1) r.2

  pub moved : (f : Finding) → IsFinding night blocks f → IsFinding night others f
  moved (UnitBare u) h = (h.0, times (λ b. has_unit night (shape_of b) u) ∙ h.1)
  moved (UnitTwice u) h = (h.0, let same : times_unit night others u ≡ times_unit night blocks u = times (λ b. has_unit night (shape_of b) u) in let twice = h.1 in omega arith)
  moved (PlaceBare v) h = (h.0, times (λ b. has_position night (shape_of b) v) ∙ h.1)
  moved (PlaceTwice v) h = (
    h.0,
    let same : times_position night others v ≡ times_position night blocks v = times
        (λ b. has_position night (shape_of b) v) in let twice = h.1 in omega arith,
  )
  moved (WrongType id) h = block_moved (λ b. IsTrue (type_fault night b)) id h
  moved (TooSoon id) h = block_moved (λ b. IsTrue (is_too_soon night (shape_of b))) id h
  moved (NoRouteIn id) h = block_moved (λ b. IsSome b.park × (way_in night b ≡ None)) id h
  moved (NoRouteOut id) h = block_moved (λ b. IsSome b.park × (way_out night b ≡ None)) id h
  moved (Crossing i j) h = record {
    item = h.item;
    there = stay_moved h.item h.there;
    named = h.named;
    holds = record
        { item = h.holds.item; there = stay_moved h.holds.item h.holds.there; named = h.holds.named; holds = h.holds.holds };
  }
  moved (TooLong id load) h = record {
    item = h.item;
    there = stay_moved h.item h.there;
    named = h.named;
    holds = record {
      is = h.holds.is
          ∙ sym (load_permuted night blocks others h.item p);
      above = h.holds.above;
    };
  }
  moved (StatedCost stated real) h = h

pub any_order : (night : Night) (blocks others : List Block) → AreInRange night blocks → IsPermutation blocks others → findings_in night others ≡ findings_in night blocks
any_order night blocks others h p =
    only_one night blocks (findings_in night others) h (ordered night others (range_permuted night blocks others p h))
    (λ f. (λ i. moved night others blocks (IsPermutation-sym blocks others p) f (listed_from night others f i), λ x. listed_to night others f (moved night blocks others p f x)))
