-- The order of trains: what a stable sort gives, and that it keeps a timetable well formed.
use Rattle.std.specs.Prelude.{filter, All, nat_le, bytes_eq}
use Rattle.std.specs.List.{AllByRecursion}
use Rattle.std.specs.List.Sorted.{IsPermutation, IsNonDecreasingBy, IsStableByKey, ties}
use Rattle.std.specs.Ordering.{nat_cmp, is_lt}
use Rattle.std.proofs.Common.{◌≡◌, ℕ, zero, suc, ◌<◌, ◌≤◌, Bool, true, false, not, ◌&&◌, ◌==◌, cond, List, [], ◌∷◌, ◌++◌, length, get_or, sym, ap, ◌∙◌, subst, arith, inl, inr, refl, IsTrue, Ordering}
use Rattle.std.proofs.lemmas.List.{append-nil}
use Rattle.std.proofs.lemmas.Bool.{cases_Bool, cases_order, cond-true, cond-false, eqb-true, eq-eqb, ne_eqb, leb-true, leb-false, le-leb, not-true, not_from_true}
use Rattle.std.proofs.lemmas.Cmp.{nat_list_eq_equiv}
use Rattle.std.proofs.lemmas.List.Elements.{All-from_recursion, recursion_from_All, filter_agree, All-filter, filter-append, filter_passes}
use Rattle.std.proofs.lemmas.List.Sorted.{All-permutation, IsPermutation-refl, IsPermutation-cons, IsPermutation-sym, IsPermutation-trans, IsPermutation-middle, IsPermutation-map, length_permutation, sum_by-IsPermutation}
use Rattle.std.proofs.lemmas.Map.Keys.{IsDistinct-IsPermutation}
use Rattle.std.proofs.lemmas.Map.Made.{AllPairs-from_IsDistinct, IsDistinct-from_AllPairs}
use Rattle.std.proofs.lemmas.Slice.Eq.{bytes_eq-Decides}
use Rattle.shunt_lists.specs.defs.Members.{AreDistinct}
use Rattle.shunt_instance.specs.declared.records.Origin.TheVariants as origin
use Rattle.shunt_instance.specs.declared.records.Station.{Station}
use Rattle.shunt_instance.specs.declared.records.Train.{Train}
use Rattle.shunt_instance.specs.declared.records.Timetable.{Timetable}
use Rattle.shunt_instance.specs.defs.Words.{is_standing, names_of}
use Rattle.shunt_instance.specs.defs.Wellformed.{IsStation, IsTrain, AreTrains, StandingFirst, IsTimetable}
use Rattle.shunt_instance.specs.defs.Instance.{insert_by_minute, sort_by_minute, Night, night_of, IsOrderedNight, IsInstance}
use Rattle.shunt_lists.proofs.Orders.{nat_less as less, nat_greater as greater, nat_equal as even}

abbrev at_minute : ℕ → Train → Bool
at_minute m t = t.minute == m

-- the minutes never fall
abbrev Rises : List Train → Type 0
Rises [] = Unit {0}
Rises (t ∷ ts) = AllByRecursion (λ u. t.minute ≤ u.minute) ts × Rises ts

rises_from : (ts : List Train) → IsNonDecreasingBy (λ t. t.minute) ts → Rises ts
rises_from [] h = tt
rises_from (t ∷ ts) h = (
  recursion_from_All (λ u. t.minute ≤ u.minute) ts (λ k d lt. h 0 (suc k) d (omega arith) (omega arith)),
  rises_from ts (λ i j d le lt. h (suc i) (suc j) d (omega arith) (omega arith)),
)

pub to_non_decreasing : (ts : List Train) → Rises ts → IsNonDecreasingBy (λ t. t.minute) ts
to_non_decreasing [] h i j d le lt = absurd (omega arith)
to_non_decreasing (t ∷ ts) h zero zero d le lt = omega arith
to_non_decreasing (t ∷ ts) h zero (suc j) d le lt = All-from_recursion (λ u. t.minute ≤ u.minute) ts h.0 j d (omega arith)
to_non_decreasing (t ∷ ts) h (suc i) zero d le lt = absurd (omega arith)
to_non_decreasing (t ∷ ts) h (suc i) (suc j) d le lt = to_non_decreasing ts h.1 i j d (omega arith) (omega arith)

-- no train of an earlier minute
none_before : (m : ℕ) (ts : List Train) → AllByRecursion (λ u. m < u.minute) ts → filter (at_minute m) ts ≡ []
none_before m [] h = refl
none_before m (t ∷ ts) h = cond-false (t.minute == m) _ _ (ne_eqb t.minute m (λ e. omega (arith, h.0))) ∙ none_before m ts h.1

later : (m n : ℕ) (ts : List Train) → m < n → AllByRecursion (λ u. n ≤ u.minute) ts → AllByRecursion (λ u. m < u.minute) ts
later m n [] lt h = tt
later m n (t ∷ ts) lt h = (omega (arith, h.0), later m n ts lt h.1)

its_own : (t : Train) (ts : List Train) → filter (at_minute t.minute) (t ∷ ts) ≡ t ∷ filter (at_minute t.minute) ts
its_own t ts = cond-true (t.minute == t.minute) _ _ (eq-eqb t.minute t.minute refl)

not_empty : (t : Train) (ts : List Train) → [] ≡ t ∷ ts → ⊥
not_empty t ts e = cc

-- of two rising lists with the same trains at each minute, the heads' minutes are the same
no_earlier : (t u : Train) (ts us : List Train) → AllByRecursion (λ v. u.minute ≤ v.minute) us → ((m : ℕ) → filter (at_minute m) (t ∷ ts) ≡ filter (at_minute m) (u ∷ us))
    → t.minute < u.minute → ⊥
no_earlier t u ts us h same lt = not_empty t _ (sym (none_before t.minute (u ∷ us) (lt, later t.minute u.minute us lt h)) ∙ sym (same t.minute) ∙ its_own t ts)

head_is : (t u : Train) (ts us : List Train) → t ∷ ts ≡ u ∷ us → t ≡ u
head_is t u ts us e = cc

tail_is : (t u : Train) (ts us : List Train) → t ∷ ts ≡ u ∷ us → ts ≡ us
tail_is t u ts us e = cc

rest_same : (t : Train) (ts us : List Train) (m : ℕ) (b : Bool) → cond b (t ∷ filter (at_minute m) ts) (filter (at_minute m) ts)
    ≡ cond b (t ∷ filter (at_minute m) us) (filter (at_minute m) us) → filter (at_minute m) ts ≡ filter (at_minute m) us
rest_same t ts us m true e = tail_is t t (filter (at_minute m) ts) (filter (at_minute m) us) e
rest_same t ts us m false e = e

first_same : (t u : Train) (ts us : List Train) → t.minute ≡ u.minute → filter (at_minute t.minute) (t ∷ ts) ≡ filter (at_minute t.minute) (u ∷ us) → t ≡ u
first_same t u ts us e same = head_is t u _ _ (sym (its_own t ts) ∙ same ∙ cond-true (u.minute == t.minute) _ _ (eq-eqb u.minute t.minute (sym e)))

alike : (t u : Train) (ts us : List Train) → t ≡ u → ts ≡ us → t ∷ ts ≡ u ∷ us
alike t u ts us e f = cc

-- a rising list is told by its trains at each minute
pub one_order : (ts us : List Train) → Rises ts → Rises us → ((m : ℕ) → filter (at_minute m) ts ≡ filter (at_minute m) us) → ts ≡ us
one_order [] [] h g same = refl
one_order [] (u ∷ us) h g same = absurd (not_empty u (filter (at_minute u.minute) us) (same u.minute ∙ its_own u us))
one_order (t ∷ ts) [] h g same = absurd (not_empty t (filter (at_minute t.minute) ts) (sym (same t.minute) ∙ its_own t ts))
one_order (t ∷ ts) (u ∷ us) h g same = elim (cases_order t.minute u.minute) [
  | inl e ↦
      let f = first_same t u ts us e (same t.minute) in
      let rest = one_order ts us h.1 g.1 (λ m. rest_same t ts us m (t.minute == m)
      (subst (λ (v : Train). filter (at_minute m) (t ∷ ts) ≡ filter (at_minute m) (v ∷ us)) (sym f) (same m))) in
      alike t u ts us f rest
  | inr (inl lt) ↦ absurd (no_earlier t u ts us g.0 same lt)
  | inr (inr lt) ↦ absurd (no_earlier u t us ts h.0 (λ m. sym (same m)) lt)
]

-- an inserted train stands among those of its minute as at the front
picked : (t u : Train) (us : List Train) (b d : Bool) → (b ≡ true → d ≡ true → ⊥)
    → cond b (u ∷ cond d (t ∷ us) us) (cond d (t ∷ us) us) ≡ cond d (t ∷ cond b (u ∷ us) us) (cond b (u ∷ us) us)
picked t u us true true ne = absurd (ne refl refl)
picked t u us true false ne = refl
picked t u us false true ne = refl
picked t u us false false ne = refl

swapped : (t u : Train) (m : ℕ) (us : List Train) → u.minute < t.minute → cond (u.minute == m) (u ∷ cond (t.minute == m) (t ∷ us) us) (cond (t.minute == m) (t ∷ us) us)
    ≡ cond (t.minute == m) (t ∷ cond (u.minute == m) (u ∷ us) us) (cond (u.minute == m) (u ∷ us) us)
swapped t u m us lt = picked t u us (u.minute == m) (t.minute == m) (λ is also. omega (arith, eqb-true u.minute m is, eqb-true t.minute m also))

insert_keeps : (m : ℕ) (t : Train) (us : List Train) → filter (at_minute m) (insert_by_minute t us) ≡ filter (at_minute m) (t ∷ us)
insert_keeps m t [] = refl
insert_keeps m t (u ∷ us) = elim (cases_Bool (nat_le t.minute u.minute)) [
  | inl is ↦ ap (filter (at_minute m)) (cond-true (nat_le t.minute u.minute) (t ∷ u ∷ us) (u ∷ insert_by_minute t us) is)
  | inr apart ↦ ap (filter (at_minute m)) (cond-false (nat_le t.minute u.minute) (t ∷ u ∷ us) (u ∷ insert_by_minute t us) apart)
      ∙ ap (λ (r : List Train). cond (u.minute == m) (u ∷ r) r) (insert_keeps m t us) ∙ swapped t u m (filter (at_minute m) us) (leb-false t.minute u.minute apart)
]

pub sort_keeps : (m : ℕ) (ts : List Train) → filter (at_minute m) (sort_by_minute ts) ≡ filter (at_minute m) ts
sort_keeps m [] = refl
sort_keeps m (t ∷ ts) = insert_keeps m t (sort_by_minute ts) ∙ ap (λ (r : List Train). cond (t.minute == m) (t ∷ r) r) (sort_keeps m ts)

-- a sorted list rises
insert_all : (P : Train → Type 0) (t : Train) (us : List Train) → P t → AllByRecursion P us → AllByRecursion P (insert_by_minute t us)
insert_all P t [] p h = (p, tt)
insert_all P t (u ∷ us) p h = elim (cases_Bool (nat_le t.minute u.minute)) [
  | inl is ↦ subst (AllByRecursion P) (sym (cond-true (nat_le t.minute u.minute) (t ∷ u ∷ us) (u ∷ insert_by_minute t us) is)) (p, h)
  | inr apart ↦ subst (AllByRecursion P) (sym (cond-false (nat_le t.minute u.minute) (t ∷ u ∷ us) (u ∷ insert_by_minute t us) apart)) (h.0, insert_all P t us p h.1)
]

from_here : (m n : ℕ) (ts : List Train) → m ≤ n → AllByRecursion (λ u. n ≤ u.minute) ts → AllByRecursion (λ u. m ≤ u.minute) ts
from_here m n [] le h = tt
from_here m n (t ∷ ts) le h = (omega (arith, h.0), from_here m n ts le h.1)

insert_rises : (t : Train) (us : List Train) → Rises us → Rises (insert_by_minute t us)
insert_rises t [] h = (tt, tt)
insert_rises t (u ∷ us) h = elim (cases_Bool (nat_le t.minute u.minute)) [
  | inl is ↦ let le = leb-true t.minute u.minute is in subst Rises (sym (cond-true (nat_le t.minute u.minute) (t ∷ u ∷ us) (u ∷ insert_by_minute t us) is))
      ((le, from_here t.minute u.minute us le h.0), h)
  | inr apart ↦ let lt = leb-false t.minute u.minute apart in subst Rises (sym (cond-false (nat_le t.minute u.minute) (t ∷ u ∷ us) (u ∷ insert_by_minute t us) apart))
      (insert_all (λ v. u.minute ≤ v.minute) t us (omega arith) h.0, insert_rises t us h.1)
]

pub sort_rises : (ts : List Train) → Rises (sort_by_minute ts)
sort_rises [] = tt
sort_rises (t ∷ ts) = insert_rises t (sort_by_minute ts) (sort_rises ts)

abbrev ordered : Ordering → Ordering → Bool
ordered a b = not (is_lt a) && not (is_lt b)

apart_if_below : (a b : ℕ) → a < b → (b == a) ≡ false
apart_if_below a b lt = ne_eqb b a (λ e. omega arith)

apart_if_above : (a b : ℕ) → b < a → (b == a) ≡ false
apart_if_above a b lt = ne_eqb b a (λ e. omega arith)

numbers_tie : (a b : ℕ) → ordered (nat_cmp a b) (nat_cmp b a) ≡ (b == a)
numbers_tie a b = elim (cases_order a b) [
  | inl e ↦ rw (even a b e, even b a (sym e)) (sym (eq-eqb b a (sym e)))
  | inr (inl lt) ↦ rw (less a b lt) (sym (apart_if_below a b lt))
  | inr (inr lt) ↦ rw (greater a b lt, less b a lt) (sym (apart_if_above a b lt))
]

abbrev mark : ℕ → Train
mark m = record { name = []; minute = m; origin = origin.Platform (record { 0 = 0 }); units = []; placed = [] }

-- whatever sorts by minute and keeps the order of those that tie gives this list
pub stable_sort : (ts us : List Train) → IsNonDecreasingBy (λ t. t.minute) us → IsStableByKey (λ t. t.minute) nat_cmp ts us → us ≡ sort_by_minute ts
stable_sort ts us rises stable = one_order us (sort_by_minute ts) (rises_from us rises) (sort_rises ts)
    (λ m. sym (agree m us) ∙ stable (mark m) ∙ agree m ts ∙ sym (sort_keeps m ts))
  where
    agree : (m : ℕ) (vs : List Train) → filter (ties (λ a b. is_lt (nat_cmp a.minute b.minute)) (mark m)) vs ≡ filter (at_minute m) vs
    agree m vs = filter_agree (ties (λ a b. is_lt (nat_cmp a.minute b.minute)) (mark m)) (at_minute m) (λ t. numbers_tie m t.minute) vs

-- an inserted train changes places alone
insert_moves : (t : Train) (us : List Train) → IsPermutation (t ∷ us) (insert_by_minute t us)
insert_moves t [] = IsPermutation-refl (t ∷ [])
insert_moves t (u ∷ us) = elim (cases_Bool (nat_le t.minute u.minute)) [
  | inl is ↦ subst (IsPermutation (t ∷ u ∷ us)) (sym (cond-true (nat_le t.minute u.minute) (t ∷ u ∷ us) (u ∷ insert_by_minute t us) is)) (IsPermutation-refl (t ∷ u ∷ us))
  | inr apart ↦ subst (IsPermutation (t ∷ u ∷ us)) (sym (cond-false (nat_le t.minute u.minute) (t ∷ u ∷ us) (u ∷ insert_by_minute t us) apart))
      (IsPermutation-trans (t ∷ u ∷ us) (u ∷ t ∷ us) (u ∷ insert_by_minute t us) (IsPermutation-sym (u ∷ t ∷ us) (t ∷ u ∷ us) (IsPermutation-middle (u ∷ []) t us))
      (IsPermutation-cons u (t ∷ us) (insert_by_minute t us) (insert_moves t us)))
]

pub sort_moves : (ts : List Train) → IsPermutation ts (sort_by_minute ts)
sort_moves [] = IsPermutation-refl []
sort_moves (t ∷ ts) = IsPermutation-trans (t ∷ ts) (t ∷ sort_by_minute ts) (insert_by_minute t (sort_by_minute ts)) (IsPermutation-cons t ts (sort_by_minute ts) (sort_moves ts))
    (insert_moves t (sort_by_minute ts))

names_stay : (xs ys : List (List ℕ)) → IsPermutation xs ys → AreDistinct xs → AreDistinct ys
names_stay xs ys moves h = AllPairs-from_IsDistinct bytes_eq-Decides ys (IsDistinct-IsPermutation bytes_eq nat_list_eq_equiv.symm xs ys moves
    (IsDistinct-from_AllPairs bytes_eq-Decides xs h))

-- trains in another order are within the limits too
pub trains_stay : (s : Station) (ts us : List Train) → IsPermutation ts us → AreTrains s ts → AreTrains s us
trains_stay s ts us moves h = record {
  few = rw (length_permutation ts us moves) h.few;
  units = rw (sum_by-IsPermutation (λ (t : Train). length t.units) ts us moves) h.units;
  each = All-permutation (IsTrain s) ts us moves h.each;
  names = names_stay (names_of ts) (names_of us) (IsPermutation-map (λ (t : Train). t.name) ts us moves) h.names;
}

at_front : (t : Train) (us : List Train) → t.minute ≡ 0 → insert_by_minute t us ≡ t ∷ us
at_front t [] e = refl
at_front t (u ∷ us) e = cond-true (nat_le t.minute u.minute) (t ∷ u ∷ us) (u ∷ insert_by_minute t us) (le-leb t.minute u.minute (omega arith))

front_stays : (ss ts : List Train) → AllByRecursion (λ t. t.minute ≡ 0) ss → sort_by_minute (ss ++ ts) ≡ ss ++ sort_by_minute ts
front_stays [] ts h = refl
front_stays (s ∷ ss) ts h = ap (insert_by_minute s) (front_stays ss ts h.1) ∙ at_front s (ss ++ sort_by_minute ts) h.0

all_pass : (p : Train → Bool) (ts : List Train) → AllByRecursion (λ t. p t ≡ true) ts → filter p ts ≡ ts
all_pass p [] h = refl
all_pass p (t ∷ ts) h = cond-true (p t) _ _ h.0 ∙ ap (λ (r : List Train). t ∷ r) (all_pass p ts h.1)

none_pass : (p : Train → Bool) (ts : List Train) → AllByRecursion (λ t. p t ≡ false) ts → filter p ts ≡ []
none_pass p [] h = refl
none_pass p (t ∷ ts) h = cond-false (p t) _ _ h.0 ∙ none_pass p ts h.1

abbrev is_moving : Train → Bool
is_moving t = not (is_standing t)

-- a list of standing trains and then of others has the standing ones first
parts : (ss ts : List Train) → All (λ t. is_standing t ≡ true) ss → All (λ t. is_moving t ≡ true) ts → StandingFirst (ss ++ ts)
parts ss ts p q =
    let standing : filter is_standing (ss ++ ts) ≡ ss = filter-append is_standing ss ts
    ∙ ap (λ (r : List Train). r ++ filter is_standing ts) (all_pass is_standing ss (recursion_from_All _ ss p))
    ∙ ap (λ (r : List Train). ss ++ r) (none_pass is_standing ts (recursion_from_All _ ts (λ k d lt. not-true (is_standing (get_or ts k d)) (q k d lt)))) ∙ append-nil ss in
    let moving : filter is_moving (ss ++ ts) ≡ ts = filter-append is_moving ss ts
    ∙ ap (λ (r : List Train). r ++ filter is_moving ts) (none_pass is_moving ss (recursion_from_All _ ss (λ k d lt. not_from_true (is_standing (get_or ss k d)) (p k d lt))))
    ∙ all_pass is_moving ts (recursion_from_All _ ts q) in
    sym (ap (λ (r : List Train). r ++ filter is_moving (ss ++ ts)) standing ∙ ap (λ (r : List Train). ss ++ r) moving)

-- standing trains stay in front
standing_stay : (ts : List Train) → StandingFirst ts → All (λ t. IsTrue (is_standing t) → t.minute ≡ 0) ts → StandingFirst (sort_by_minute ts)
standing_stay ts first start =
    let ss = filter is_standing ts in
    let ms = filter is_moving ts in
    let zero' : All (λ t. t.minute ≡ 0) ss = λ k d lt. All-filter is_standing (λ t. IsTrue (is_standing t) → t.minute ≡ 0) ts start k d lt (filter_passes is_standing ts k d lt) in
    subst StandingFirst (sym (ap sort_by_minute first ∙ front_stays ss ms (recursion_from_All _ ss zero')))
    (parts ss (sort_by_minute ms) (filter_passes is_standing ts) (All-permutation (λ t. is_moving t ≡ true) ms (sort_by_minute ms) (sort_moves ms)
    (filter_passes is_moving ts)))

-- what a well-formed station and timetable make is an instance
pub night_is : (s : Station) (t : Timetable) → IsStation s → IsTimetable s t → IsOrderedNight (night_of s t)
night_is s t p q = record {
  station = p;
  timetable = record {
    arrive = trains_stay s t.arrive (sort_by_minute t.arrive) (sort_moves t.arrive) q.arrive;
    depart = trains_stay s t.depart (sort_by_minute t.depart) (sort_moves t.depart) q.depart;
    first = standing_stay t.arrive q.first q.at_start;
    at_start = All-permutation (λ r. IsTrue (is_standing r) → r.minute ≡ 0) t.arrive (sort_by_minute t.arrive) (sort_moves t.arrive) q.at_start;
    from_platform = All-permutation (λ r. is_standing r ≡ false) t.depart (sort_by_minute t.depart) (sort_moves t.depart) q.from_platform;
    to_come = All-permutation (λ r. r.placed ≡ []) t.depart (sort_by_minute t.depart) (sort_moves t.depart) q.to_come;
  };
  arrive_rises = to_non_decreasing (sort_by_minute t.arrive) (sort_rises t.arrive);
  depart_rises = to_non_decreasing (sort_by_minute t.depart) (sort_rises t.depart);
}

-- trains in their order are their own sort
pub sorted_again : (ts : List Train) → IsNonDecreasingBy (λ t. t.minute) ts → ts ≡ sort_by_minute ts
sorted_again ts h = one_order ts (sort_by_minute ts) (rises_from ts h) (sort_rises ts) (λ m. sym (sort_keeps m ts))

abbrev night_from : Station → List Train → List Train → Night
night_from s a b = record { station = s; arrive = a; depart = b }

night_alike : (s : Station) (a b c d : List Train) → a ≡ c → b ≡ d → night_from s a b ≡ night_from s c d
night_alike s a b c d e f = cc

pub night_again : (night : Night) → IsOrderedNight night → night ≡ night_of night.station (record { arrive = night.arrive; depart = night.depart })
night_again night h = night_alike night.station night.arrive night.depart (sort_by_minute night.arrive) (sort_by_minute night.depart) (sorted_again night.arrive h.arrive_rises)
    (sorted_again night.depart h.depart_rises)

-- an instance is such a night
pub opened : (night : Night) → IsInstance night → IsOrderedNight night
unfolding IsInstance
opened night h = h

pub closed : (night : Night) → IsOrderedNight night → IsInstance night
unfolding IsInstance
closed night h = h
