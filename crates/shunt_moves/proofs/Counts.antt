-- How many findings of each kind there are.
use Rattle.std.proofs.Common.{◌≡◌, ℕ, zero, suc, ◌+◌, ◌^◌, ◌<◌, ◌≤◌, Bool, true, false, cond, List, [], ◌∷◌, ◌++◌, length, get_or, refl, ap, ◌∙◌, arith, sum_by}
use Rattle.std.specs.Prelude.{◌==◌, nat_le, nat_lt, count_by, slice_index}
use Rattle.std.specs.List.{flat_map}
use Rattle.std.proofs.lemmas.List.Concat.{flat_map-cons}
use Rattle.std.proofs.lemmas.List.Sums.{sum_by-cons, sum_by-append, sum_by-le, count_by-le-length}
use Rattle.shunt_lists.specs.defs.Below.{count_below}
use Rattle.shunt_base.specs.declared.keys.Stay.{Stay}
use Rattle.shunt_stays.specs.defs.Crossings.{crosses, load_after, pairs_in, overs_in}
use Rattle.shunt_instance.specs.defs.Instance.{Night, unit_total, position_total}
use Rattle.shunt_blocks.specs.declared.records.Block.{Block}
use Rattle.shunt_blocks.specs.defs.Shapes.{shape_of}
use Rattle.shunt_blocks.specs.defs.Blocks.{type_fault}
use Rattle.shunt_blocks.specs.defs.Stays.{is_too_soon}
use Rattle.shunt_blocks.specs.defs.Lists.{times_unit, times_position, track_lengths, stays_of, total_cost}
use Rattle.shunt_timeline.specs.defs.Holdings.{Holding}
use Rattle.shunt_stays.proofs.Crossings.{pairs_permuted, overs_permuted}
use Rattle.shunt_audit.specs.declared.types.Finding.{Finding}
use Rattle.shunt_audit.specs.declared.types.Finding.TheVariants.{UnitBare, UnitTwice, PlaceBare, PlaceTwice, WrongType, TooSoon, NoRouteIn, NoRouteOut, Crossing, TooLong}
use Rattle.shunt_audit.specs.defs.Findings.{kind_of}
use Rattle.shunt_audit.specs.defs.Listed.{noted, noted_below, insert_by_id, by_id, bare_units, twice_units, bare_places, twice_places, lacks_way_in, lacks_way_out, wrong_types, too_soons, no_ways_in, no_ways_out, crossings_of, crossings, too_longs, findings_in}
use Rattle.shunt_moves.specs.declared.types.Tally.{Tally}
use Rattle.shunt_moves.specs.defs.States.{Ascend}
use Rattle.shunt_moves.specs.defs.Tallies.{count_of, tally_of, sum_of}
use Rattle.shunt_moves.specs.declared.faults.Faults.{Faults}
use Rattle.shunt_moves.specs.defs.Kept.{Times, at, IsKeptState}
use Rattle.shunt_moves.proofs.KeptBeside.{kept_small, few_held}
use Rattle.shunt_lists.proofs.CountsBelow.{count_below-same as same_count}
use Rattle.shunt_audit.proofs.ById.{put_first as insert_below}

abbrev flag : Bool → ℕ
flag b = cond b 1 0

-- blocks by ascending id are in order
pub by_id_is : (blocks : List Block) → Ascend blocks → by_id blocks ≡ blocks
by_id_is [] a = refl
by_id_is (b ∷ blocks) a = ap (insert_by_id b) (by_id_is blocks a.1) ∙ insert_below b blocks a.0

-- ---- what is noted, counted

module _ (p : Finding → Bool) where
  count_append : (xs ys : List Finding) → count_by p (xs ++ ys) ≡ count_by p xs + count_by p ys
  count_append xs ys = sum_by-append (λ f. cond (p f) 1 0) xs ys

  one_yes : (t : Bool) (f : Finding) → p f ≡ true → count_by p (noted t f) ≡ flag t
  one_yes true f e = let one : flag (p f) ≡ 1 = ap flag e in omega arith
  one_yes false f e = refl

  one_no : (t : Bool) (f : Finding) → p f ≡ false → count_by p (noted t f) ≡ 0
  one_no true f e = let one : flag (p f) ≡ 0 = ap flag e in omega arith
  one_no false f e = refl

  below_if : (b : Bool) (n : ℕ) (t : ℕ → Bool) (note : ℕ → Finding) → ((u : ℕ) → p (note u) ≡ b)
      → count_by p (noted_below n (λ u. noted (t u) (note u))) ≡ cond b (count_below n t) 0
  below_if true zero t note e = refl
  below_if false zero t note e = refl
  below_if true (suc n) t note e = let rest = below_if true n t note e in let one = one_yes (t n) (note n) (e n) in omega
      (arith, count_append (noted_below n (λ u. noted (t u) (note u))) (noted (t n) (note n)))
  below_if false (suc n) t note e = let rest = below_if false n t note e in let one = one_no (t n) (note n) (e n) in omega
      (arith, count_append (noted_below n (λ u. noted (t u) (note u))) (noted (t n) (note n)))

  count_flat : {X : Type 0} (f : X → List Finding) (x : X) (xs : List X) → count_by p (flat_map f (x ∷ xs)) ≡ count_by p (f x) + count_by p (flat_map f xs)
  count_flat f x xs = ap (count_by p) (flat_map-cons f x xs) ∙ count_append (f x) (flat_map f xs)

  flat_if : {X : Type 0} (b : Bool) (t : X → Bool) (note : X → Finding) (xs : List X) → ((x : X) → p (note x) ≡ b)
      → count_by p (flat_map (λ x. noted (t x) (note x)) xs) ≡ cond b (count_by t xs) 0
  flat_if true t note [] e = refl
  flat_if false t note [] e = refl
  flat_if true t note (x ∷ xs) e = let rest = flat_if true t note xs e in let one = one_yes (t x) (note x) (e x) in omega
      (arith, count_flat (λ x. noted (t x) (note x)) x xs, sum_by-cons (λ y. cond (t y) 1 0) x xs)
  flat_if false t note (x ∷ xs) e = let rest = flat_if false t note xs e in let one = one_no (t x) (note x) (e x) in omega (arith, count_flat (λ x. noted (t x) (note x)) x xs)

  pairs_if : (b : Bool) (all stays : List Stay) → ((x y : ℕ) → p (Crossing x y) ≡ b)
      → count_by p (flat_map (crossings_of all) stays) ≡ cond b (sum_by (λ x. count_by (crosses x) all) stays) 0
  pairs_if true all [] e = refl
  pairs_if false all [] e = refl
  pairs_if true all (x ∷ stays) e = let rest = pairs_if true all stays e in let one = flat_if true (crosses x) (λ c. Crossing x.id c.id) all (λ y. e x.id y.id) in omega
      (arith, count_flat (crossings_of all) x stays, sum_by-cons (λ b. count_by (crosses b) all) x stays)
  pairs_if false all (x ∷ stays) e = let rest = pairs_if false all stays e in let one = flat_if false (crosses x) (λ c. Crossing x.id c.id) all (λ y. e x.id y.id) in omega
      (arith, count_flat (crossings_of all) x stays)

  -- the ten lists, one after the other
  ten : (l1 l2 l3 l4 l5 l6 l7 l8 l9 l10 : List Finding) → count_by p ((l1 ++ (l2 ++ (l3 ++ l4))) ++ ((l5 ++ (l6 ++ (l7 ++ l8))) ++ (l9 ++ l10)))
      ≡ count_by p l1 + count_by p l2 + count_by p l3 + count_by p l4 + count_by p l5 + count_by p l6 + count_by p l7 + count_by p l8 + count_by p l9 + count_by p l10
  ten l1 l2 l3 l4 l5 l6 l7 l8 l9 l10 =
      let a = count_append (l1 ++ (l2 ++ (l3 ++ l4))) ((l5 ++ (l6 ++ (l7 ++ l8))) ++ (l9 ++ l10)) in
      let b = count_append (l5 ++ (l6 ++ (l7 ++ l8))) (l9 ++ l10) in
      let c = count_append l1 (l2 ++ (l3 ++ l4)) in let d = count_append l2 (l3 ++ l4) in let e = count_append l3 l4 in
      let f = count_append l5 (l6 ++ (l7 ++ l8)) in let g = count_append l6 (l7 ++ l8) in let h = count_append l7 l8 in let i = count_append l9 l10 in
      omega arith

-- ---- the findings of each kind

module _ (night : Night) (blocks : List Block) (k : ℕ) where
  abbrev of_kind : Finding → Bool
  of_kind f = kind_of f == k

  kinds : (sorted : List Block) → sorted ≡ blocks → count_by of_kind
      ((bare_units night blocks ++ (twice_units night blocks ++ (bare_places night blocks ++ twice_places night blocks)))
      ++ ((wrong_types night sorted ++ (too_soons night sorted ++ (no_ways_in night sorted ++ no_ways_out night sorted)))
      ++ (crossings (stays_of night sorted) ++ too_longs (track_lengths night.station) (stays_of night sorted))))
      ≡ cond (1 == k) (count_below (unit_total night) (λ u. times_unit night blocks u == 0)) 0
      + cond (2 == k) (count_below (unit_total night) (λ u. nat_le 2 (times_unit night blocks u))) 0
      + cond (3 == k) (count_below (position_total night) (λ v. times_position night blocks v == 0)) 0
      + cond (4 == k) (count_below (position_total night) (λ v. nat_le 2 (times_position night blocks v))) 0
      + cond (5 == k) (count_by (type_fault night) blocks) 0
      + cond (6 == k) (count_by (λ b. is_too_soon night (shape_of b)) blocks) 0
      + cond (7 == k) (count_by (lacks_way_in night) blocks) 0
      + cond (8 == k) (count_by (lacks_way_out night) blocks) 0
      + cond (9 == k) (pairs_in (stays_of night blocks)) 0
      + cond (10 == k) (overs_in (track_lengths night.station) (stays_of night blocks)) 0
  kinds sorted is =
      let all = ten of_kind (bare_units night blocks) (twice_units night blocks) (bare_places night blocks) (twice_places night blocks) (wrong_types night sorted)
      (too_soons night sorted) (no_ways_in night sorted) (no_ways_out night sorted) (crossings (stays_of night sorted))
      (too_longs (track_lengths night.station) (stays_of night sorted)) in
      let c1 = below_if of_kind (1 == k) (unit_total night) (λ u. times_unit night blocks u == 0) UnitBare (λ u. refl) in
      let c2 = below_if of_kind (2 == k) (unit_total night) (λ u. nat_le 2 (times_unit night blocks u)) UnitTwice (λ u. refl) in
      let c3 = below_if of_kind (3 == k) (position_total night) (λ v. times_position night blocks v == 0) PlaceBare (λ u. refl) in
      let c4 = below_if of_kind (4 == k) (position_total night) (λ v. nat_le 2 (times_position night blocks v)) PlaceTwice (λ u. refl) in
      let c5 : count_by of_kind (wrong_types night sorted) ≡ cond (5 == k) (count_by (type_fault night) blocks) 0 = flat_if of_kind (5 == k) (type_fault night)
      (λ b. WrongType b.id) sorted (λ b. refl) ∙ ap (λ (l : List Block). cond (5 == k) (count_by (type_fault night) l) 0) is in
      let c6 : count_by of_kind (too_soons night sorted) ≡ cond (6 == k) (count_by (λ b. is_too_soon night (shape_of b)) blocks) 0 = flat_if of_kind (6 == k)
      (λ b. is_too_soon night (shape_of b)) (λ b. TooSoon b.id) sorted (λ b. refl)
      ∙ ap (λ (l : List Block). cond (6 == k) (count_by (λ b. is_too_soon night (shape_of b)) l) 0) is in
      let c7 : count_by of_kind (no_ways_in night sorted) ≡ cond (7 == k) (count_by (lacks_way_in night) blocks) 0 = flat_if of_kind (7 == k) (lacks_way_in night)
      (λ b. NoRouteIn b.id) sorted (λ b. refl) ∙ ap (λ (l : List Block). cond (7 == k) (count_by (lacks_way_in night) l) 0) is in
      let c8 : count_by of_kind (no_ways_out night sorted) ≡ cond (8 == k) (count_by (lacks_way_out night) blocks) 0 = flat_if of_kind (8 == k) (lacks_way_out night)
      (λ b. NoRouteOut b.id) sorted (λ b. refl) ∙ ap (λ (l : List Block). cond (8 == k) (count_by (lacks_way_out night) l) 0) is in
      let c9 : count_by of_kind (crossings (stays_of night sorted)) ≡ cond (9 == k) (pairs_in (stays_of night blocks)) 0 = pairs_if of_kind (9 == k) (stays_of night sorted)
      (stays_of night sorted) (λ x y. refl) ∙ ap (λ (l : List Block). cond (9 == k) (pairs_in (stays_of night l)) 0) is in
      let c10 : count_by of_kind (too_longs (track_lengths night.station) (stays_of night sorted))
      ≡ cond (10 == k) (overs_in (track_lengths night.station) (stays_of night blocks)) 0 =
      flat_if of_kind (10 == k) (λ s. nat_lt (slice_index (track_lengths night.station) s.track.0) (load_after (stays_of night sorted) s))
      (λ s. TooLong s.id (load_after (stays_of night sorted) s)) (stays_of night sorted) (λ s. refl)
      ∙ ap (λ (l : List Block). cond (10 == k) (overs_in (track_lengths night.station) (stays_of night l)) 0) is in
      omega arith

-- ---- the tally

abbrev pub made_tally : ℕ → ℕ → ℕ → ℕ → ℕ → ℕ → ℕ → ℕ → ℕ → ℕ → ℕ → Tally
made_tally a b c d e f g h i j cost = record {
  bare_units = a;
  twice_units = b;
  bare_places = c;
  twice_places = d;
  wrong_type = e;
  too_soon = f;
  no_route_in = g;
  no_route_out = h;
  crossing = i;
  too_long = j;
  cost = cost;
}

same_tally : (a b c d e f g h i j x a' b' c' d' e' f' g' h' i' j' y : ℕ) → a ≡ a' → b ≡ b' → c ≡ c' → d ≡ d' → e ≡ e' → f ≡ f' → g ≡ g' → h ≡ h' → i ≡ i' → j ≡ j' → x ≡ y
    → made_tally a b c d e f g h i j x ≡ made_tally a' b' c' d' e' f' g' h' i' j' y
same_tally a b c d e f g h i j x a' b' c' d' e' f' g' h' i' j' y p1 p2 p3 p4 p5 p6 p7 p8 p9 p10 p11 = cc

pub counts : (night : Night) (blocks : List Block) (k : ℕ) → Ascend blocks → count_of night blocks k
    ≡ cond (1 == k) (count_below (unit_total night) (λ u. times_unit night blocks u == 0)) 0
    + cond (2 == k) (count_below (unit_total night) (λ u. nat_le 2 (times_unit night blocks u))) 0
    + cond (3 == k) (count_below (position_total night) (λ v. times_position night blocks v == 0)) 0
    + cond (4 == k) (count_below (position_total night) (λ v. nat_le 2 (times_position night blocks v))) 0
    + cond (5 == k) (count_by (type_fault night) blocks) 0
    + cond (6 == k) (count_by (λ b. is_too_soon night (shape_of b)) blocks) 0
    + cond (7 == k) (count_by (lacks_way_in night) blocks) 0
    + cond (8 == k) (count_by (lacks_way_out night) blocks) 0
    + cond (9 == k) (pairs_in (stays_of night blocks)) 0
    + cond (10 == k) (overs_in (track_lengths night.station) (stays_of night blocks)) 0
unfolding findings_in
counts night blocks k a = kinds night blocks k (by_id blocks) (by_id_is blocks a)

pub tally_is : (night : Night) (blocks : List Block) → Ascend blocks → made_tally
    (count_below (unit_total night) (λ u. times_unit night blocks u == 0)) (count_below (unit_total night) (λ u. nat_le 2 (times_unit night blocks u)))
    (count_below (position_total night) (λ v. times_position night blocks v == 0)) (count_below (position_total night) (λ v. nat_le 2 (times_position night blocks v)))
    (count_by (type_fault night) blocks) (count_by (λ b. is_too_soon night (shape_of b)) blocks) (count_by (lacks_way_in night) blocks) (count_by (lacks_way_out night) blocks)
    (pairs_in (stays_of night blocks)) (overs_in (track_lengths night.station) (stays_of night blocks)) (total_cost night blocks) ≡ tally_of night blocks
unfolding tally_of
tally_is night blocks a =
    same_tally _ _ _ _ _ _ _ _ _ _ _ _ _ _ _ _ _ _ _ _ _ _
    (let c = counts night blocks 1 a in omega arith) (let c = counts night blocks 2 a in omega arith) (let c = counts night blocks 3 a in omega arith)
    (let c = counts night blocks 4 a in omega arith)
    (let c = counts night blocks 5 a in omega arith) (let c = counts night blocks 6 a in omega arith) (let c = counts night blocks 7 a in omega arith)
    (let c = counts night blocks 8 a in omega arith)
    (let c = counts night blocks 9 a in omega arith) (let c = counts night blocks 10 a in omega arith) refl

-- at most 400 stays cross in few pairs
pub few_pairs : (stays : List Stay) → length stays ≤ 400 → pairs_in stays ≤ 160000
few_pairs stays few = let most = sum_by-le (λ b. count_by (crosses b) stays) 400 stays
    (λ k d lt. let n = count_by-le-length (crosses (get_or stays k d)) stays in omega arith) in omega arith

-- the tally from what is kept
module _ (night : Night) (blocks : List Block) (held : Holding) (units places : Times) (f : Faults) (k : IsKeptState night blocks held units places f) where
  unit_counts : (p : ℕ → Bool) → count_below units.total (λ u. p (at units.times u)) ≡ count_below (unit_total night) (λ u. p (times_unit night blocks u))
  unit_counts p = ap (λ n. count_below n (λ u. p (at units.times u))) k.unit_count
      ∙ same_count (unit_total night) (λ u. p (at units.times u)) (λ u. p (times_unit night blocks u)) (λ u lt. ap p (k.each_unit u lt))

  place_counts : (p : ℕ → Bool) → count_below places.total (λ v. p (at places.times v)) ≡ count_below (position_total night) (λ v. p (times_position night blocks v))
  place_counts p = ap (λ n. count_below n (λ v. p (at places.times v))) k.place_count
      ∙ same_count (position_total night) (λ v. p (at places.times v)) (λ v. p (times_position night blocks v)) (λ v lt. ap p (k.each_place v lt))

  pub pairs_kept : pairs_in held.stays ≡ pairs_in (stays_of night blocks)
  pairs_kept = pairs_permuted (stays_of night blocks) held.stays k.stays

  pub overs_kept : overs_in held.lengths held.stays ≡ overs_in (track_lengths night.station) (stays_of night blocks)
  overs_kept = ap (λ (l : List ℕ). overs_in l held.stays) k.lengths ∙ overs_permuted (track_lengths night.station) (stays_of night blocks) held.stays k.stays

  pub tally_kept : (a b c d i j : ℕ) → a ≡ count_below units.total (λ u. at units.times u == 0) → b ≡ count_below units.total (λ u. nat_le 2 (at units.times u))
      → c ≡ count_below places.total (λ v. at places.times v == 0) → d ≡ count_below places.total (λ v. nat_le 2 (at places.times v))
      → i ≡ pairs_in held.stays → j ≡ overs_in held.lengths held.stays
      → made_tally a b c d f.wrong_type f.too_soon f.no_route_in f.no_route_out i j f.cost ≡ tally_of night blocks
  tally_kept a b c d i j p1 p2 p3 p4 p5 p6 =
      same_tally _ _ _ _ _ _ _ _ _ _ _ _ _ _ _ _ _ _ _ _ _ _
      (p1 ∙ unit_counts (λ n. n == 0)) (p2 ∙ unit_counts (λ n. nat_le 2 n)) (p3 ∙ place_counts (λ n. n == 0)) (p4 ∙ place_counts (λ n. nat_le 2 n))
      (ap (λ (g : Faults). g.wrong_type) k.faults_are) (ap (λ (g : Faults). g.too_soon) k.faults_are) (ap (λ (g : Faults). g.no_route_in) k.faults_are)
      (ap (λ (g : Faults). g.no_route_out) k.faults_are)
      (p5 ∙ pairs_kept) (p6 ∙ overs_kept) (ap (λ (g : Faults). g.cost) k.faults_are)
      ∙ tally_is night blocks k.ascend

  pub tally_small : (a b c d i j : ℕ) → a ≤ 160 → b ≤ 160 → c ≤ 160 → d ≤ 160 → i ≡ pairs_in held.stays → j ≡ overs_in held.lengths held.stays
      → sum_of (made_tally a b c d f.wrong_type f.too_soon f.no_route_in f.no_route_out i j f.cost) < 2 ^ 32
  tally_small a b c d i j l1 l2 l3 l4 p q =
      let small = kept_small night blocks held units places f k in
      let few : length held.stays ≤ 400 = (let n = k.few in omega (arith, few_held night blocks held.stays k.stays)) in
      let pairs = few_pairs held.stays few in let overs = count_by-le-length (λ b. nat_lt (slice_index held.lengths b.track.0) (load_after held.stays b)) held.stays in
      let w = small.wrong_type in let s = small.too_soon in let x = small.no_route_in in let y = small.no_route_out in
      omega arith
