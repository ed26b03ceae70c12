-- Crossings and loads by the numbers of the keys, and the clash law.
use Rattle.std.proofs.Common.{◌≡◌, ◌≢◌, ◌⊎◌, inl, inr, ⊎_elim, ◌↔◌, ℕ, ◌≤◌, leb, ltb, eqb, Bool, true, false, not, ◌&&◌, cond, List, [], ◌∷◌, get_or, refl, sym, subst, ap, ◌∙◌, arith, sum_by, IsPermutation}
use Rattle.std.specs.List.{filter, count_by}
use Rattle.std.specs.Ordering.{is_lt, is_le}
use Rattle.std.specs.declared.cmp.Ordering.{Ordering}
use Rattle.std.specs.declared.cmp.Ordering.TheVariants.{Less, Equal, Greater}
use Rattle.std.proofs.lemmas.Bool.{false≢true, and_parts, and_from, or_cases, or_left, or_right, not-true, not_from_false, eqb-true, eq-eqb, ltb-true, ltb-false, false_from_ne_true}
use Rattle.std.proofs.lemmas.List.Sums.{sum_by-cons}
use Rattle.std.proofs.lemmas.List.Sorted.{sum_by-IsPermutation}
use Rattle.shunt_base.proofs.Sides.{same_side_tells, same_side_is}
use Rattle.shunt_base.specs.defs.Sides.{same_side}
use Rattle.shunt_lists.proofs.Sums.{some_of, sum_filter, sum_alike}
use Rattle.shunt_lists.proofs.Members.{filter_from, filter_to}
use Rattle.shunt_lists.specs.defs.Members.{In}
use Rattle.shunt_base.specs.declared.ids.Side.{Side}
use Rattle.shunt_base.specs.declared.keys.EventKey.{EventKey}
use Rattle.shunt_base.specs.declared.keys.Stay.{Stay}
use Rattle.shunt_base.specs.defs.Keys.{key_cmp, rank, IsBefore, IsKey, IsWellFormed, AreStays}
use Rattle.shunt_base.proofs.Ranks.{key_cmp_is, is_before}
use Rattle.shunt_stays.specs.defs.Events.{key_before}
use Rattle.shunt_stays.specs.defs.Run.{GoesThrough, AreOnTracks}
use Rattle.shunt_stays.specs.defs.Crossings.{Crosses, in_the_way, crosses, stands_at, load_at, load_after, NoneCross, NoneOver, pairs_in, overs_in}
use Rattle.shunt_stays.proofs.Halves.{formed, before_is, halves_of, ordered}
use Rattle.shunt_stays.proofs.Track.{length_of, Meets, stands_by, total_at}
use Rattle.shunt_stays.proofs.Runs.{goes_clear, clear_goes}
use Rattle.shunt_stays.proofs.Tracks.{on_track}
use Rattle.shunt_stays.proofs.Fewer.{stays_filter, by_track}
use Rattle.shunt_stays.proofs.StandingStays.{fits_at}
use Rattle.shunt_lists.proofs.Orders.{le_is}

side_differs : (x y : Side) → not (same_side x y) ≡ true → x ≢ y
side_differs x y t e = false≢true (sym (not-true (same_side x y) t) ∙ same_side_is x y e)

differing : (x y : Side) → x ≢ y → not (same_side x y) ≡ true
differing x y ne = not_from_false (same_side x y) (false_from_ne_true (same_side x y) (λ t. ne (same_side_tells x y t)))

less_is : (o : Ordering) → is_lt o ≡ true → o ≡ Less
less_is Less t = refl
less_is Equal t = absurd (false≢true t)
less_is Greater t = absurd (false≢true t)

before_from : (k l : EventKey) → key_before k l ≡ true → IsBefore k l
before_from k l t = less_is (key_cmp k l) t

before_to : (k l : EventKey) → IsBefore k l → key_before k l ≡ true
before_to k l e = ap is_lt e

abbrev Blocked : Stay → Stay → Type 0
Blocked b c = (IsBefore c.leave b.leave × (c.side_out ≢ c.side_in)) ⊎ (IsBefore b.leave c.leave × (b.side_out ≡ c.side_in))

way_from : (b c : Stay) → in_the_way b c ≡ true → Blocked b c
way_from b c t =
    ⊎_elim (λ u. let p = and_parts (key_before c.leave b.leave) (not (same_side c.side_out c.side_in)) u in inl
    (before_from c.leave b.leave p.0, side_differs c.side_out c.side_in p.1))
    (λ u. let p = and_parts (key_before b.leave c.leave) (same_side b.side_out c.side_in) u in inr (before_from b.leave c.leave p.0, same_side_tells b.side_out c.side_in p.1))
    (or_cases (key_before c.leave b.leave && not (same_side c.side_out c.side_in)) (key_before b.leave c.leave && same_side b.side_out c.side_in) t)

way_to : (b c : Stay) → Blocked b c → in_the_way b c ≡ true
way_to b c (inl p) = or_left (key_before c.leave b.leave && not (same_side c.side_out c.side_in)) (key_before b.leave c.leave && same_side b.side_out c.side_in)
    (and_from (key_before c.leave b.leave) (not (same_side c.side_out c.side_in)) (before_to c.leave b.leave p.0) (differing c.side_out c.side_in p.1))
way_to b c (inr p) = or_right (key_before c.leave b.leave && not (same_side c.side_out c.side_in)) (key_before b.leave c.leave && same_side b.side_out c.side_in)
    (and_from (key_before b.leave c.leave) (same_side b.side_out c.side_in) (before_to b.leave c.leave p.0) (same_side_is b.side_out c.side_in p.1))

-- the test of a crossing
pub crosses_is : (b c : Stay) → crosses b c ≡ true ↔ Crosses b c
crosses_is b c = (
  λ t. let p = and_parts (eqb b.track.0 c.track.0) (key_before b.enter c.enter && (key_before c.enter b.leave && in_the_way b c)) t in
      let q = and_parts (key_before b.enter c.enter) (key_before c.enter b.leave && in_the_way b c) p.1 in
      let r = and_parts (key_before c.enter b.leave) (in_the_way b c) q.1 in
      record { track = eqb-true b.track.0 c.track.0 p.0; after = before_from b.enter c.enter q.0; during = before_from c.enter b.leave r.0; blocked = way_from b c r.1 },
  λ x. and_from (eqb b.track.0 c.track.0) (key_before b.enter c.enter && (key_before c.enter b.leave && in_the_way b c)) (eq-eqb b.track.0 c.track.0 x.track)
      (and_from (key_before b.enter c.enter) (key_before c.enter b.leave && in_the_way b c) (before_to b.enter c.enter x.after)
      (and_from (key_before c.enter b.leave) (in_the_way b c) (before_to c.enter b.leave x.during) (way_to b c x.blocked))),
)

-- by the numbers of the keys
pub meets : (b c : Stay) → IsWellFormed b → IsWellFormed c → Crosses b c → Meets b c
meets b c w v x = record {
  after = (is_before b.enter c.enter w.enter_in v.enter_in).0 x.after;
  during = (is_before c.enter b.leave v.enter_in w.leave_in).0 x.during;
  blocked = ⊎_elim (λ p. inl ((is_before c.leave b.leave v.leave_in w.leave_in).0 p.0, p.1)) (λ p. inr ((is_before b.leave c.leave w.leave_in v.leave_in).0 p.0, p.1)) x.blocked;
}

pub met : (b c : Stay) → IsWellFormed b → IsWellFormed c → b.track.0 ≡ c.track.0 → Meets b c → Crosses b c
met b c w v e x = record {
  track = e;
  after = (is_before b.enter c.enter w.enter_in v.enter_in).1 x.after;
  during = (is_before c.enter b.leave v.enter_in w.leave_in).1 x.during;
  blocked = ⊎_elim (λ p. inl ((is_before c.leave b.leave v.leave_in w.leave_in).1 p.0, p.1)) (λ p. inr ((is_before b.leave c.leave w.leave_in v.leave_in).1 p.0, p.1)) x.blocked;
}

pub never_itself : (b : Stay) → IsWellFormed b → Crosses b b → ⊥
never_itself b w x = let lt = (meets b b w w x).after in omega arith

pub never_both : (b c : Stay) → IsWellFormed b → IsWellFormed c → Crosses b c → Crosses c b → ⊥
never_both b c w v x y = let lt = (meets b c w v x).after in let gt = (meets c b v w y).after in omega arith

by_is : (k : EventKey) (s : Stay) → IsKey k → IsWellFormed s → (is_le (key_cmp s.enter k) && key_before k s.leave) ≡ stands_by (rank k) s
by_is k s q w =
    ap (λ x. x && key_before k s.leave) (ap is_le (key_cmp_is s.enter k w.enter_in q) ∙ le_is (rank s.enter) (rank k))
    ∙ ap (λ x. leb (rank s.enter) (rank k) && x) (before_is k s.leave q w.leave_in)

twice : (x y : Bool) (n : ℕ) → cond (x && y) n 0 ≡ cond x (cond y n 0) 0
twice true y n = refl
twice false y n = refl

pub load_is : (stays : List Stay) (t : ℕ) (k : EventKey) → AreStays stays → IsKey k → load_at stays t k ≡ total_at (filter (on_track t) stays) (rank k)
load_is stays t k a q =
    sum_alike (λ s. cond (stands_at t k s) s.length 0) (some_of (some_of length_of (stands_by (rank k))) (on_track t)) stays (λ s h.
    ap (λ x. cond (on_track t s && x) s.length 0) (by_is k s q (formed stays s a h)) ∙ twice (on_track t s) (stands_by (rank k) s) s.length)
    ∙ sym (sum_filter (some_of length_of (stands_by (rank k))) (on_track t) stays)

-- who stands on a track at a moment fits it
pub standing_fits : (lengths : List ℕ) (stays : List Stay) (t : ℕ) (k : EventKey) → AreStays stays → AreOnTracks lengths stays → GoesThrough lengths stays → IsKey k
    → load_at stays t k ≤ get_or lengths t 0
standing_fits lengths stays t k a on go q =
    let le = fits_at (get_or lengths t 0) (filter (on_track t) stays) (rank k) (stays_filter (on_track t) stays a) ((by_track lengths stays a on).0 go t) in
    omega (arith, load_is stays t k a q)

module _ (lengths : List ℕ) (stays : List Stay) (a : AreStays stays) (on : AreOnTracks lengths stays) where
  own : (b : Stay) → In b stays → In b (filter (on_track b.track.0) stays)
  own b h = filter_to (on_track b.track.0) stays b h (eq-eqb b.track.0 b.track.0 refl)

  beside : (b c : Stay) → c.track.0 ≡ b.track.0 → In c stays → In c (filter (on_track b.track.0) stays)
  beside b c e h = filter_to (on_track b.track.0) stays c h (eq-eqb c.track.0 b.track.0 e)

  load_of : (b : Stay) → In b stays → load_after stays b ≡ total_at (filter (on_track b.track.0) stays) (rank b.enter)
  load_of b h = load_is stays b.track.0 b.enter a (formed stays b a h).enter_in

  pub through_clear : GoesThrough lengths stays → NoneCross stays × NoneOver lengths stays
  through_clear go = (
    λ b c h i x. (clear b).0 b c (own b h) (beside b c (sym x.track) i) (meets b c (formed stays b a h) (formed stays c a i) x),
    λ b h. let le = (clear b).1 b (own b h) in omega (arith, load_of b h),
  )
    where
      clear : (b : Stay) → ((x y : Stay) → In x (filter (on_track b.track.0) stays) → In y (filter (on_track b.track.0) stays) → Meets x y → ⊥)
          × ((x : Stay) → In x (filter (on_track b.track.0) stays) → total_at (filter (on_track b.track.0) stays) (rank x.enter) ≤ get_or lengths b.track.0 0)
      clear b = goes_clear (get_or lengths b.track.0 0) (filter (on_track b.track.0) stays) (halves_of (filter (on_track b.track.0) stays))
          (ordered (filter (on_track b.track.0) stays) (stays_filter (on_track b.track.0) stays a)) ((by_track lengths stays a on).0 go b.track.0)

  pub clear_through : NoneCross stays → NoneOver lengths stays → GoesThrough lengths stays
  clear_through none over = (by_track lengths stays a on).1 (λ t. clear_goes (get_or lengths t 0) (filter (on_track t) stays) (halves_of (filter (on_track t) stays))
      (ordered (filter (on_track t) stays) (stays_filter (on_track t) stays a)) (apart t) (light t))
    where
      at_t : (t : ℕ) (b : Stay) → In b (filter (on_track t) stays) → In b stays × (b.track.0 ≡ t)
      at_t t b h = let f = filter_from (on_track t) stays b h in (f.0, eqb-true b.track.0 t f.1)

      apart : (t : ℕ) (b c : Stay) → In b (filter (on_track t) stays) → In c (filter (on_track t) stays) → Meets b c → ⊥
      apart t b c h i x = let p = at_t t b h in let q = at_t t c i in none b c p.0 q.0 (met b c (formed stays b a p.0) (formed stays c a q.0) (p.1 ∙ sym q.1) x)

      light : (t : ℕ) (b : Stay) → In b (filter (on_track t) stays) → total_at (filter (on_track t) stays) (rank b.enter) ≤ get_or lengths t 0
      light t b h =
          let p = at_t t b h in
          subst (λ v. total_at (filter (on_track v) stays) (rank b.enter) ≤ get_or lengths v 0) p.1 (let le = over b p.0 in omega (arith, load_of b p.0))

-- counts that are 0
pub sum_none : {X : Type 0} (f : X → ℕ) (xs : List X) → sum_by f xs ≡ 0 ↔ ((x : X) → In x xs → f x ≡ 0)
sum_none {X} f [] = (λ e x h. absurd h, λ e. refl)
sum_none {X} f (x ∷ xs) =
    let r = sum_none f xs in (
      λ e y h. ⊎_elim (λ i. omega (arith, ap f i, sum_by-cons f x xs)) (λ i. r.0 (omega (arith, sum_by-cons f x xs)) y i) h,
      λ e. let first = e x (inl refl) in let rest = r.1 (λ y h. e y (inr h)) in omega (arith, sum_by-cons f x xs),
    )

flag_off : (b : Bool) → ◌≡◌ {A = ℕ} (cond b 1 0) 0 → b ≡ true → ⊥
flag_off true e t = absurd (omega arith)
flag_off false e t = false≢true t

flag_none : (b : Bool) → (b ≡ true → ⊥) → ◌≡◌ {A = ℕ} (cond b 1 0) 0
flag_none true h = absurd (h refl)
flag_none false h = refl

pub count_none : {X : Type 0} (p : X → Bool) (xs : List X) → count_by p xs ≡ 0 ↔ ((x : X) → In x xs → p x ≡ true → ⊥)
count_none p xs = (
  λ e x h t. flag_off (p x) ((sum_none (λ y. cond (p y) 1 0) xs).0 e x h) t,
  λ h. (sum_none (λ y. cond (p y) 1 0) xs).1 (λ x i. flag_none (p x) (h x i)),
)

pub no_pairs : (stays : List Stay) → pairs_in stays ≡ 0 ↔ NoneCross stays
no_pairs stays = (
  λ e b c h i x. (count_none (crosses b) stays).0 ((sum_none (λ z. count_by (crosses z) stays) stays).0 e b h) c i ((crosses_is b c).1 x),
  λ none. (sum_none (λ z. count_by (crosses z) stays) stays).1 (λ b h. (count_none (crosses b) stays).1 (λ c i t. none b c h i ((crosses_is b c).0 t))),
)

pub no_overs : (lengths : List ℕ) (stays : List Stay) → overs_in lengths stays ≡ 0 ↔ NoneOver lengths stays
no_overs lengths stays = (
  λ e b h. le b (false_from_ne_true (ltb (get_or lengths b.track.0 0) (load_after stays b))
      ((count_none (λ z. ltb (get_or lengths z.track.0 0) (load_after stays z)) stays).0 e b h)),
  λ none. (count_none (λ z. ltb (get_or lengths z.track.0 0) (load_after stays z)) stays).1
      (λ b h t. let gt = ltb-true (get_or lengths b.track.0 0) (load_after stays b) t in let most = none b h in omega arith),
)
  where
    le : (b : Stay) → ltb (get_or lengths b.track.0 0) (load_after stays b) ≡ false → load_after stays b ≤ get_or lengths b.track.0 0
    le b t = ltb-false (get_or lengths b.track.0 0) (load_after stays b) t

-- the order of the stays doesn't matter
pub load_permuted : (stays others : List Stay) (t : ℕ) (k : EventKey) → IsPermutation stays others → load_at others t k ≡ load_at stays t k
load_permuted stays others t k p = sum_by-IsPermutation (λ s. cond (stands_at t k s) s.length 0) stays others p

pub pairs_permuted : (stays others : List Stay) → IsPermutation stays others → pairs_in others ≡ pairs_in stays
pairs_permuted stays others p =
    sum_alike (λ b. count_by (crosses b) others) (λ b. count_by (crosses b) stays) others (λ b h. sum_by-IsPermutation (λ c. cond (crosses b c) 1 0) stays others p)
    ∙ sum_by-IsPermutation (λ b. count_by (crosses b) stays) stays others p

pub overs_permuted : (lengths : List ℕ) (stays others : List Stay) → IsPermutation stays others → overs_in lengths others ≡ overs_in lengths stays
overs_permuted lengths stays others p =
    sum_alike (λ (b : Stay). cond (ltb (get_or lengths b.track.0 0) (load_after others b)) 1 0)
    (λ (b : Stay). cond (ltb (get_or lengths b.track.0 0) (load_after stays b)) 1 0) others
    (λ b h. ap (λ n. cond (ltb (get_or lengths b.track.0 0) n) 1 0) (load_permuted stays others b.track.0 b.enter p))
    ∙ sum_by-IsPermutation (λ (b : Stay). cond (ltb (get_or lengths b.track.0 0) (load_after stays b)) 1 0) stays others p
