-- One more run among those of a train that have come, and that train in its place among others.
use Rattle.std.proofs.Common.{◌≡◌, ℕ, zero, suc, ◌+◌, ◌<◌, ◌≤◌, ◌⊎◌, ⊎_elim, inl, inr, Bool, true, false, not, ◌&&◌, List, [], ◌∷◌, ◌++◌, length, length-append, map, filter, set, refl, sym, ap, subst, ◌∙◌, arith, cond}
use Rattle.std.specs.Prelude.{All, AllPairs, nat_lt, Some, None, position, take, drop, sum_by}
use Rattle.std.specs.List.{list_any, position_or_len}
use Rattle.std.specs.Option.{unwrap_or}
use Rattle.std.proofs.lemmas.Bool.{true≢false, cases_lt, lt-ltb, ltb-true, ltb-false, and_from, or_parts}
use Rattle.std.proofs.lemmas.List.{take-append-drop, drop_more, set_split}
use Rattle.std.proofs.lemmas.List.Elements.{All-nil, All-cons, All-tail, All-append, All-take, All-drop}
use Rattle.std.proofs.lemmas.List.Kept.{AllPairs-cons}
use Rattle.std.proofs.lemmas.List.Sums.{sum_by-append, sum_by-cons}
use Rattle.shunt_lists.proofs.Lists.{no_pairs}
use Rattle.shunt_instance.specs.declared.records.PlacedRun.{PlacedRun}
use Rattle.shunt_instance.specs.declared.records.Train.{Train}
use Rattle.shunt_instance.specs.defs.Words.{is_standing, unit_count, names_of, train_at}
use Rattle.shunt_instance.specs.defs.Wellformed.{StandingFirst}
use Rattle.shunt_instance.proofs.Placed.{Before}
use Rattle.shunt_timetable.specs.defs.TimetableFormat.{meets_units, place_among, with_run, placed_train, with_placed}

-- ---- a run among others

few_before : (p : PlacedRun → Bool) (runs : List PlacedRun) → position_or_len p runs ≤ length runs
few_before p [] = omega arith
few_before p (s ∷ runs) = by (p s) (few_before p runs)
  where
    by : (b : Bool) → position_or_len p runs ≤ length runs → cond (not b) (1 + position_or_len p runs) 0 ≤ length (s ∷ runs)
    by true le = omega arith
    by false le = omega (arith, le)

place_is : (p : PlacedRun → Bool) (runs : List PlacedRun) → unwrap_or (position p runs) (length runs) ≡ position_or_len p runs
place_is p runs = by (nat_lt (position_or_len p runs) (length runs)) refl
  where
    by : (b : Bool) → nat_lt (position_or_len p runs) (length runs) ≡ b → unwrap_or (cond b (Some (position_or_len p runs)) None) (length runs) ≡ position_or_len p runs
    by true e = refl
    by false e = let past = ltb-false (position_or_len p runs) (length runs) e in omega (arith, past, few_before p runs)

-- a run at a place among others
abbrev at_place : PlacedRun → ℕ → List PlacedRun → List PlacedRun
at_place r n runs = take n runs ++ r ∷ drop n runs

pub with_run_next : (r s : PlacedRun) (runs : List PlacedRun) → with_run r (s ∷ runs) ≡ cond (nat_lt r.first s.first) (r ∷ s ∷ runs) (s ∷ with_run r runs)
with_run_next r s runs =
    let p : PlacedRun → Bool = λ s. nat_lt r.first s.first in
    ap (λ n. at_place r n (s ∷ runs)) (place_is p (s ∷ runs)) ∙ by (nat_lt r.first s.first)
    ∙ ap (λ n. cond (nat_lt r.first s.first) (r ∷ s ∷ runs) (s ∷ at_place r n runs)) (sym (place_is p runs))
  where
    by : (b : Bool) → at_place r (cond (not b) (1 + position_or_len (λ (s : PlacedRun). nat_lt r.first s.first) runs) 0) (s ∷ runs)
        ≡ cond b (r ∷ s ∷ runs) (s ∷ at_place r (position_or_len (λ (s : PlacedRun). nat_lt r.first s.first) runs) runs)
    by true = refl
    by false =
        let n = position_or_len (λ (s : PlacedRun). nat_lt r.first s.first) runs in
        let e : 1 + n ≡ suc n = omega arith in
        ap (λ n. at_place r n (s ∷ runs)) e

pub with_run_all : (P : PlacedRun → Type 0) (r : PlacedRun) (runs : List PlacedRun) → P r → All P runs → All P (with_run r runs)
with_run_all P r runs one all =
    let n = place_among r runs in
    All-append P (take n runs) (r ∷ drop n runs) (All-take P n runs all) (All-cons P r (drop n runs) one (All-drop P n runs all))

-- they share no unit
abbrev pub Clear : PlacedRun → PlacedRun → Type 0
Clear r s = Before r s ⊎ Before s r

clear_of_one : (r s : PlacedRun) → 1 ≤ r.count → meets_units r.first r.count s ≡ false → Clear r s
clear_of_one r s some e =
    ⊎_elim
    (λ a. ⊎_elim (λ b. absurd (true≢false (sym (and_from _ _ (and_from _ _ (lt-ltb 0 r.count (omega (arith, some))) (lt-ltb r.first (s.first + s.count) b))
    (lt-ltb s.first (r.first + r.count) a)) ∙ e))) (λ le. inr le) (cases_lt r.first (s.first + s.count)))
    (λ le. inl le)
    (cases_lt s.first (r.first + r.count))

pub clear_of_all : (r : PlacedRun) (runs : List PlacedRun) → 1 ≤ r.count → list_any (meets_units r.first r.count) runs ≡ false → All (Clear r) runs
clear_of_all r [] some e = All-nil (Clear r)
clear_of_all r (s ∷ runs) some e = let p = or_parts _ _ e in All-cons (Clear r) s runs (clear_of_one r s some p.0) (clear_of_all r runs some p.1)

pub heads_apart : (s : PlacedRun) (runs : List PlacedRun) → AllPairs Before (s ∷ runs) → All (Before s) runs
heads_apart s runs apart = λ k d lt. apart 0 (suc k) d (omega arith) (omega arith)

pub rest_apart : (s : PlacedRun) (runs : List PlacedRun) → AllPairs Before (s ∷ runs) → AllPairs Before runs
rest_apart s runs apart = λ i j d lt within. apart (suc i) (suc j) d (omega arith) (omega arith)

pub with_run_apart : (r : PlacedRun) (runs : List PlacedRun) → 1 ≤ r.count → All (λ s. 1 ≤ s.count) runs → All (Clear r) runs → AllPairs Before runs
    → AllPairs Before (with_run r runs)
with_run_apart r [] some each clear apart = AllPairs-cons Before r [] (All-nil (Before r)) (no_pairs Before)
with_run_apart r (s ∷ runs) some each clear apart =
    subst (AllPairs Before) (sym (with_run_next r s runs)) (by (nat_lt r.first s.first) refl
    (with_run_apart r runs some (All-tail (λ s. 1 ≤ s.count) s runs each) (All-tail (Clear r) s runs clear) (rest_apart s runs apart)))
  where
    by : (b : Bool) → nat_lt r.first s.first ≡ b → AllPairs Before (with_run r runs) → AllPairs Before (cond b (r ∷ s ∷ runs) (s ∷ with_run r runs))
    by true e rest =
        let lt = ltb-true r.first s.first e in
        let first : Before r s = ⊎_elim (λ a. a) (λ b. omega (arith, b, lt)) (clear 0 s (omega arith)) in
        AllPairs-cons Before r (s ∷ runs) (All-cons (Before r) s runs first (λ k d within. let later = heads_apart s runs apart k d within in omega (arith, first, later))) apart
    by false e rest =
        let le = ltb-false r.first s.first e in
        let first : Before s r = ⊎_elim (λ a. omega (arith, a, le, some)) (λ b. b) (clear 0 s (omega arith)) in
        AllPairs-cons Before s (with_run r runs) (with_run_all (Before s) r runs first (heads_apart s runs apart)) rest

-- behind all that begin no later
pub with_run_last : (r : PlacedRun) (runs : List PlacedRun) → All (λ s. s.first ≤ r.first) runs → with_run r runs ≡ runs ++ r ∷ []
with_run_last r [] all = refl
with_run_last r (s ∷ runs) all =
    with_run_next r s runs
    ∙ by (nat_lt r.first s.first) refl
    ∙ ap (λ l. s ∷ l) (with_run_last r runs (All-tail (λ s. s.first ≤ r.first) s runs all))
  where
    by : (b : Bool) → nat_lt r.first s.first ≡ b → cond b (r ∷ s ∷ runs) (s ∷ with_run r runs) ≡ s ∷ with_run r runs
    by true e = let lt = ltb-true r.first s.first e in let le = all 0 s (omega arith) in absurd (omega (arith, lt, le))
    by false e = refl

-- ---- another in the place of one

pub map_swapped : {X Y : Type 0} (f : X → Y) (front back : List X) (x y : X) → f x ≡ f y → map f (front ++ x ∷ back) ≡ map f (front ++ y ∷ back)
map_swapped f [] back x y e = ap (λ z. z ∷ map f back) e
map_swapped f (w ∷ front) back x y e = ap (λ l. f w ∷ l) (map_swapped f front back x y e)

pub all_swapped : {X : Type 0} (P : X → Type 0) (front back : List X) (x y : X) → (P x → P y) → All P (front ++ x ∷ back) → All P (front ++ y ∷ back)
all_swapped P [] back x y h all = All-cons P y back (h (all 0 x (omega arith))) (All-tail P x back all)
all_swapped P (w ∷ front) back x y h all = All-cons P w (front ++ y ∷ back) (all 0 w (omega arith)) (all_swapped P front back x y h (All-tail P w (front ++ x ∷ back) all))

pub sum_swapped : {X : Type 0} (f : X → ℕ) (front back : List X) (x y : X) → f x ≡ f y → sum_by f (front ++ x ∷ back) ≡ sum_by f (front ++ y ∷ back)
sum_swapped f front back x y e = omega (arith, e, sum_by-append f front (x ∷ back), sum_by-append f front (y ∷ back), sum_by-cons f x back, sum_by-cons f y back)

pub filter_none : {X : Type 0} (p : X → Bool) (xs : List X) → All (λ x. p x ≡ false) xs → filter p xs ≡ []
filter_none p [] all = refl
filter_none p (x ∷ xs) all = ap (λ b. cond b (x ∷ filter p xs) (filter p xs)) (all 0 x (omega arith)) ∙ filter_none p xs (All-tail (λ x. p x ≡ false) x xs all)

pub filter_whole : {X : Type 0} (p : X → Bool) (xs : List X) → All (λ x. p x ≡ true) xs → filter p xs ≡ xs
filter_whole p [] all = refl
filter_whole p (x ∷ xs) all = ap (λ b. cond b (x ∷ filter p xs) (filter p xs)) (all 0 x (omega arith)) ∙ ap (λ ys. x ∷ ys) (filter_whole p xs (All-tail (λ x. p x ≡ true) x xs all))

-- where none is kept, none passes
none_kept : {X : Type 0} (p : X → Bool) (xs : List X) → filter p xs ≡ [] → All (λ x. p x ≡ false) xs
none_kept p [] e = All-nil (λ x. p x ≡ false)
none_kept {X} p (x ∷ xs) e = by (p x) refl e (none_kept p xs)
  where
    by : (b : Bool) → p x ≡ b → cond b (x ∷ filter p xs) (filter p xs) ≡ [] → (filter p xs ≡ [] → All (λ x. p x ≡ false) xs) → All (λ x. p x ≡ false) (x ∷ xs)
    by true is e rest = absurd cc
    by false is e rest = All-cons (λ x. p x ≡ false) x xs is (rest e)

-- the first that is kept passes
kept_passes : {X : Type 0} (p : X → Bool) (xs ys : List X) (y : X) → filter p xs ≡ y ∷ ys → p y ≡ true
kept_passes p [] ys y e = absurd cc
kept_passes {X} p (x ∷ xs) ys y e = by (p x) refl e (kept_passes p xs ys y)
  where
    by : (b : Bool) → p x ≡ b → cond b (x ∷ filter p xs) (filter p xs) ≡ y ∷ ys → (filter p xs ≡ y ∷ ys → p y ≡ true) → p y ≡ true
    by true is e rest = let same : x ≡ y = cc in subst (λ z. p z ≡ true) same is
    by false is e rest = rest e

abbrev moves : Train → Bool
moves t = not (is_standing t)

-- behind one that stands the others have their order
behind_standing : (t : Train) (ts : List Train) → is_standing t ≡ true → StandingFirst (t ∷ ts) → StandingFirst ts
behind_standing t ts is first = by (is_standing t) is first
  where
    by : (b : Bool) → b ≡ true → t ∷ ts ≡ cond b (t ∷ filter is_standing ts) (filter is_standing ts) ++ cond (not b) (t ∷ filter moves ts) (filter moves ts) → StandingFirst ts
    by true is e = cc
    by false is e = absurd (true≢false (sym is))

-- and in front of them
before_standing : (t : Train) (ts : List Train) → is_standing t ≡ true → StandingFirst ts → StandingFirst (t ∷ ts)
before_standing t ts is first = by (is_standing t) is
  where
    by : (b : Bool) → b ≡ true → t ∷ ts ≡ cond b (t ∷ filter is_standing ts) (filter is_standing ts) ++ cond (not b) (t ∷ filter moves ts) (filter moves ts)
    by true is = ap (λ l. t ∷ l) first
    by false is = absurd (true≢false (sym is))

-- behind one that moves none stands
behind_moving : (t : Train) (ts : List Train) → is_standing t ≡ false → StandingFirst (t ∷ ts) → All (λ u. is_standing u ≡ false) ts
behind_moving t ts is first = by (is_standing t) is first
  where
    found : (kept : List Train) → filter is_standing ts ≡ kept → t ∷ ts ≡ kept ++ t ∷ filter moves ts → All (λ u. is_standing u ≡ false) ts
    found [] none e = none_kept is_standing ts none
    found (u ∷ kept) some e =
        let same : u ≡ t = cc in
        absurd (true≢false (sym (kept_passes is_standing ts kept u some) ∙ ap is_standing same ∙ is))

    by : (b : Bool) → b ≡ false → t ∷ ts ≡ cond b (t ∷ filter is_standing ts) (filter is_standing ts) ++ cond (not b) (t ∷ filter moves ts) (filter moves ts)
        → All (λ u. is_standing u ≡ false) ts
    by true is e = absurd (true≢false is)
    by false is e = found (filter is_standing ts) refl e

-- trains that move have their order
all_move : (ts : List Train) → All (λ u. is_standing u ≡ false) ts → StandingFirst ts
all_move ts all = sym (ap (λ l. l ++ filter moves ts) (filter_none is_standing ts all) ∙ filter_whole moves ts (λ k d lt. ap not (all k d lt)))

-- where one stands or moves as the one in whose place it comes, all have their order still
pub standing_swapped : (front back : List Train) (t u : Train) → is_standing u ≡ is_standing t → StandingFirst (front ++ t ∷ back) → StandingFirst (front ++ u ∷ back)
standing_swapped [] back t u same first = by (is_standing t) refl
  where
    by : (b : Bool) → is_standing t ≡ b → StandingFirst (u ∷ back)
    by true is = before_standing u back (same ∙ is) (behind_standing t back is first)
    by false is = all_move (u ∷ back) (All-cons (λ u. is_standing u ≡ false) u back (same ∙ is) (behind_moving t back is first))
standing_swapped (w ∷ front) back t u same first = by (is_standing w) refl (standing_swapped front back t u same)
  where
    by : (b : Bool) → is_standing w ≡ b → (StandingFirst (front ++ t ∷ back) → StandingFirst (front ++ u ∷ back)) → StandingFirst (w ∷ (front ++ u ∷ back))
    by true is rest = before_standing w (front ++ u ∷ back) is (rest (behind_standing w (front ++ t ∷ back) is first))
    by false is rest = all_move (w ∷ (front ++ u ∷ back))
        (All-cons (λ u. is_standing u ≡ false) w (front ++ u ∷ back) is
        (all_swapped (λ u. is_standing u ≡ false) front back t u (λ e. same ∙ e) (behind_moving w (front ++ t ∷ back) is first)))

-- ---- a train with one more run in its place

pub at_train : (k : ℕ) (trains : List Train) → k < length trains → trains ≡ take k trains ++ train_at trains k ∷ drop (k + 1) trains
at_train k trains lt = sym (take-append-drop k trains) ∙ ap (λ l. take k trains ++ l) (drop_more trains k (train_at [] 0) lt)

pub by_set : (trains : List Train) (k : ℕ) (u : Train) → k < length trains → set trains k u ≡ take k trains ++ u ∷ drop (k + 1) trains
by_set trains k u lt =
    let e : suc k ≡ k + 1 = omega arith in
    set_split trains k u lt ∙ ap (λ i. take k trains ++ u ∷ drop i trains) e

pub set_names : (trains : List Train) (k : ℕ) (u : Train) → k < length trains → u.name ≡ (train_at trains k).name → names_of (set trains k u) ≡ names_of trains
set_names trains k u lt same =
    ap names_of (by_set trains k u lt)
    ∙ map_swapped (λ (t : Train). t.name) (take k trains) (drop (k + 1) trains) u (train_at trains k) same
    ∙ sym (ap names_of (at_train k trains lt))

pub set_units : (trains : List Train) (k : ℕ) (u : Train) → k < length trains → length u.units ≡ length (train_at trains k).units → unit_count (set trains k u) ≡ unit_count trains
set_units trains k u lt same =
    ap unit_count (by_set trains k u lt)
    ∙ sum_swapped (λ (t : Train). length t.units) (take k trains) (drop (k + 1) trains) u (train_at trains k) same
    ∙ sym (ap unit_count (at_train k trains lt))

abbrev pub IsFew : Train → Type 0
IsFew t = length t.units ≤ 8

pub set_few : (trains : List Train) (k : ℕ) (u : Train) → k < length trains → length u.units ≡ length (train_at trains k).units → All IsFew trains → All IsFew (set trains k u)
set_few trains k u lt same all =
    subst (All IsFew) (sym (by_set trains k u lt))
    (all_swapped IsFew (take k trains) (drop (k + 1) trains) (train_at trains k) u (λ few. omega (arith, few, same)) (subst (All IsFew) (at_train k trains lt) all))
