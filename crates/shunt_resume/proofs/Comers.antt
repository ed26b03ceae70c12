-- What comes of the blocks of a feasible plan: runs within their blocks, which share no unit.
use Rattle.std.proofs.Common.{◌≡◌, ℕ, zero, suc, ◌+◌, ◌-◌, ◌<◌, ◌≤◌, ◌⊎◌, ⊎_elim, inl, inr, Bool, true, false, not, List, [], ◌∷◌, ◌++◌, length, get_or, map, filter, refl, sym, ap, subst, ◌∙◌, arith}
use Rattle.std.specs.Prelude.{All, AllPairs, ◌||◌, Option, Some, None, bytes_eq, if◌then◌else◌}
use Rattle.std.specs.List.{range_with_len, list_any}
use Rattle.std.proofs.lemmas.Bool.{cases_Bool, true≢false, cond-true, cond-false, and_from, or_parts, le-leb, lt-ltb, cases_lt, not-true}
use Rattle.std.proofs.lemmas.List.Elements.{All-nil, All-cons, All-tail, All-append}
use Rattle.std.proofs.lemmas.List.Kept.{AllPairs-cons}
use Rattle.std.proofs.lemmas.Slice.Eq.{bytes_eq-Decides}
use Rattle.std.proofs.lemmas.List.Concat.{flat_map-cons}
use Rattle.std.proofs.lemmas.List.{get_or-map, length-map}
use Rattle.shunt_lists.proofs.Lists.{no_pairs}
use Rattle.shunt_lists.proofs.Members.{each_one, in_place, in_map, of_map, in_flat, of_flat, filter_from, filter_yes, filter_no}
use Rattle.shunt_lists.proofs.Ranges.{range_in}
use Rattle.shunt_lists.specs.defs.Members.{In, AreDistinct}
use Rattle.shunt_instance.specs.declared.records.PlacedRun.{PlacedRun}
use Rattle.shunt_instance.specs.declared.records.Train.{Train}
use Rattle.shunt_instance.specs.declared.records.Origin.TheVariants as origin
use Rattle.shunt_instance.specs.defs.Words.{train_at, names_of, is_standing}
use Rattle.shunt_instance.specs.defs.Instance.{Night, IsOrderedNight, first_unit}
use Rattle.shunt_blocks.specs.declared.records.Shape.{Shape}
use Rattle.shunt_blocks.specs.declared.records.Block.{Block}
use Rattle.shunt_blocks.specs.declared.records.Park.{Park}
use Rattle.shunt_blocks.specs.defs.Shapes.{shape_of, unit_from, IsInRange}
use Rattle.shunt_blocks.specs.defs.Ways.{has_placed, meets_run}
use Rattle.shunt_blocks.specs.defs.Lists.{has_unit, ShareNothing}
use Rattle.shunt_blocks.proofs.Held.{one_holder}
use Rattle.shunt_timetable.proofs.PlacedRuns.{Clear}
use Rattle.shunt_resume.specs.defs.Resumed.{has_come_by, unit_at_place, cleared, cleared_runs, run_of, parked_runs, option_runs, new_runs, runs_for, train_runs}
use Rattle.shunt_resume.proofs.Ways.{any_there, Meets, meets_to}

-- ---- members and pairs of lists

pub pairs_append : {X : Type 0} (R : X → X → Type 0) (xs ys : List X) → AllPairs R xs → AllPairs R ys → ((x y : X) → In x xs → In y ys → R x y) → AllPairs R (xs ++ ys)
pairs_append R [] ys a b cross = b
pairs_append R (x ∷ xs) ys a b cross =
    AllPairs-cons R x (xs ++ ys)
    (All-append (R x) xs ys (λ k d lt. a 0 (suc k) d (omega arith) (omega arith)) (λ k d lt. cross x (get_or ys k d) (inl refl) (in_place ys k d lt)))
    (pairs_append R xs ys (λ i j d lt within. a (suc i) (suc j) d (omega arith) (omega arith)) b (λ y z i j. cross y z (inr i) j))

pub pairs_one : {X : Type 0} (R : X → X → Type 0) (x : X) → AllPairs R (x ∷ [])
pairs_one R x = AllPairs-cons R x [] (All-nil (R x)) (no_pairs R)

-- ---- the runs of one block

-- a run is of some neighbouring units of a block
pub record IsOf (b : Block) (r : PlacedRun) : Type 0 where
  pub some : 1 ≤ r.count
  pub from : b.p ≤ r.first
  pub to : r.first + r.count ≤ b.p + b.n

-- a run is what a parked block of a train that moves leaves, or one unit of an unparked block
pub record ComesParked (night : Night) (b : Block) (r : PlacedRun) : Type 0 where
  pub option : Park
  pub park : b.park ≡ Some option
  pub same : r ≡ run_of b option
  pub moves : is_standing (train_at night.arrive b.arr.0) ≡ false
  pub none : has_placed night (shape_of b) ≡ false

pub record ComesCleared (night : Night) (b : Block) (r : PlacedRun) : Type 0 where
  pub place : ℕ
  pub park : b.park ≡ None
  pub same : r ≡ cleared place
  pub from : b.p ≤ place
  pub to : place < b.p + b.n
  pub none : has_placed night (unit_at_place b place) ≡ false

abbrev pub Comes : Night → Block → PlacedRun → Type 0
Comes night b r = ComesParked night b r ⊎ ComesCleared night b r

comes_cleared : (night : Night) (b : Block) (r : PlacedRun) → b.park ≡ None → In r (cleared_runs night b) → Comes night b r
comes_cleared night b r none i =
    let at = of_map cleared (filter (λ place. not (has_placed night (unit_at_place b place))) (range_with_len b.p b.n)) r i in
    let f = filter_from (λ place. not (has_placed night (unit_at_place b place))) (range_with_len b.p b.n) at.0 at.1 in
    let h = range_in b.p b.n at.0 f.0 in
    inr (record { place = at.0; park = none; same = at.2; from = h.0; to = h.1; none = not-true _ f.1 })

comes_parked : (night : Night) (b : Block) (k : Park) (r : PlacedRun) → b.park ≡ Some k → In r (parked_runs night b k) → Comes night b r
comes_parked night b k r is i = by (is_standing (train_at night.arrive b.arr.0) || has_placed night (shape_of b)) refl i
  where
    by : (t : Bool) → (is_standing (train_at night.arrive b.arr.0) || has_placed night (shape_of b)) ≡ t → In r (if t then [] else run_of b k ∷ []) → Comes night b r
    by true e j = absurd j
    by false e (inl same) = let p = or_parts _ _ e in inl (record { option = k; park = is; same = same; moves = p.0; none = p.1 })
    by false e (inr j) = absurd j

comes_option : (night : Night) (b : Block) (o : Option Park) (r : PlacedRun) → b.park ≡ o → In r (option_runs night b o) → Comes night b r
comes_option night b None r is i = comes_cleared night b r is i
comes_option night b (Some k) r is i = comes_parked night b k r is i

-- what is new of a block has come by the minute
pub new_comes : (night : Night) (m : ℕ) (b : Block) (r : PlacedRun) → In r (new_runs night m b) → (has_come_by night m b ≡ true) × Comes night b r
unfolding new_runs
new_comes night m b r i = by (has_come_by night m b) refl i
  where
    by : (t : Bool) → has_come_by night m b ≡ t → In r (if t then option_runs night b b.park else []) → (has_come_by night m b ≡ true) × Comes night b r
    by true e j = (e, comes_option night b b.park r refl j)
    by false e j = absurd j

-- the run of a parked block is new
pub parked_new : (night : Night) (m : ℕ) (b : Block) (k : Park) → has_come_by night m b ≡ true → b.park ≡ Some k → is_standing (train_at night.arrive b.arr.0) ≡ false
    → has_placed night (shape_of b) ≡ false → In (run_of b k) (new_runs night m b)
unfolding new_runs
parked_new night m b k come is moves none =
    subst (λ (l : List PlacedRun). In (run_of b k) l)
    (sym (cond-true (has_come_by night m b) (option_runs night b b.park) [] come ∙ ap (option_runs night b) is
    ∙ cond-false (is_standing (train_at night.arrive b.arr.0) || has_placed night (shape_of b)) [] (run_of b k ∷ []) (neither _ _ moves none)))
    (inl refl)
  where
    neither : (p q : Bool) → p ≡ false → q ≡ false → (p || q) ≡ false
    neither p q e f = ap (λ (t : Bool). t || q) e ∙ f

pub comes_of : (night : Night) (b : Block) (r : PlacedRun) → 1 ≤ b.n → Comes night b r → IsOf b r
comes_of night b r some (inl c) = subst (IsOf b) (sym c.same) (record { some = some; from = omega arith; to = omega arith })
comes_of night b r some (inr c) = let lt = c.to in subst (IsOf b) (sym c.same) (record { some = omega arith; from = c.from; to = omega (arith, lt) })

-- a run that a block leaves shares no unit with those that had come
pub comes_clear : (night : Night) (b : Block) (r s : PlacedRun) → Comes night b r → In s (train_at night.arrive b.arr.0).placed → Clear r s
comes_clear night b r s (inl c) i = subst (λ (x : PlacedRun). Clear x s) (sym c.same) (apart (shape_of b) s (λ m. no (shape_of b) s i (meets_to (shape_of b) s m) c.none))
  where
    no : (x : Shape) (s : PlacedRun) → In s (train_at night.arrive b.arr.0).placed → meets_run x s ≡ true
        → list_any (meets_run x) (train_at night.arrive b.arr.0).placed ≡ false → ⊥
    no x s i m none = true≢false (sym (any_there (meets_run x) (train_at night.arrive b.arr.0).placed s i m) ∙ none)

    apart : (x : Shape) (s : PlacedRun) → (Meets x s → ⊥) → (x.p + x.n ≤ s.first) ⊎ (s.first + s.count ≤ x.p)
    apart x s never = ⊎_elim (λ lt. ⊎_elim (λ more. absurd (never (record { before = lt; behind = more }))) (λ le. inl le) (cases_lt s.first (x.p + x.n))) (λ le. inr le)
        (cases_lt x.p (s.first + s.count))
comes_clear night b r s (inr c) i =
    subst (λ (x : PlacedRun). Clear x s) (sym c.same)
    (⊎_elim (λ lt. ⊎_elim (λ more. absurd (true≢false (sym (any_there (meets_run (unit_at_place b c.place)) (train_at night.arrive b.arr.0).placed s i
    (meets_to (unit_at_place b c.place) s (record { before = lt; behind = more }))) ∙ c.none))) (λ le. inl le) (cases_lt s.first (c.place + 1))) (λ le. inr le)
    (cases_lt c.place (s.first + s.count)))

-- ---- the runs of one block share no unit

rising_range : (a n : ℕ) → AllPairs (λ x y. x < y) (range_with_len a n)
rising_range a zero = no_pairs (λ x y. x < y)
rising_range a (suc n) = AllPairs-cons (λ x y. x < y) a (range_with_len (a + 1) n)
    (λ k d lt. let h = range_in (a + 1) n (get_or (range_with_len (a + 1) n) k d) (in_place (range_with_len (a + 1) n) k d lt) in let le = h.0 in omega (arith, le))
    (rising_range (a + 1) n)

pairs_filter : {X : Type 0} (R : X → X → Type 0) (p : X → Bool) (xs : List X) → AllPairs R xs → AllPairs R (filter p xs)
pairs_filter R p [] a = a
pairs_filter {X} R p (x ∷ xs) a = elim (cases_Bool (p x)) [
  | inl yes' ↦ subst (AllPairs R) (sym (filter_yes p x xs yes'))
      (AllPairs-cons R x (filter p xs) (λ k d lt. front (get_or (filter p xs) k d) (in_place (filter p xs) k d lt)) (pairs_filter R p xs rest))
  | inr no' ↦ subst (AllPairs R) (sym (filter_no p x xs no')) (pairs_filter R p xs rest)
]
  where
    rest : AllPairs R xs
    rest = λ i j d lt within. a (suc i) (suc j) d (omega arith) (omega arith)

    front : (y : X) → In y (filter p xs) → R x y
    front y i = each_one (R x) xs y (λ k d lt. a 0 (suc k) d (omega arith) (omega arith)) (filter_from p xs y i).0

pairs_cleared : (places : List ℕ) → AllPairs (λ x y. x < y) places → AllPairs Clear (map cleared places)
pairs_cleared [] a = no_pairs Clear
pairs_cleared (x ∷ places) a = AllPairs-cons Clear (cleared x) (map cleared places)
    (λ k d lt. behind places (λ i e within. a 0 (suc i) e (omega arith) (omega arith)) k d lt)
    (pairs_cleared places (λ i j d lt within. a (suc i) (suc j) d (omega arith) (omega arith)))
  where
    behind : (ys : List ℕ) → All (λ y. x < y) ys → All (Clear (cleared x)) (map cleared ys)
    behind [] all = All-nil (Clear (cleared x))
    behind (y ∷ ys) all = All-cons (Clear (cleared x)) (cleared y) (map cleared ys) (inl (let lt = all 0 y (omega arith) in omega (arith, lt)))
        (behind ys (All-tail (λ y. x < y) y ys all))

option_apart : (night : Night) (b : Block) (o : Option Park) → AllPairs Clear (option_runs night b o)
option_apart night b None = pairs_cleared (filter (λ place. not (has_placed night (unit_at_place b place))) (range_with_len b.p b.n))
    (pairs_filter (λ x y. x < y) (λ place. not (has_placed night (unit_at_place b place))) (range_with_len b.p b.n) (rising_range b.p b.n))
option_apart night b (Some k) = by (is_standing (train_at night.arrive b.arr.0) || has_placed night (shape_of b))
  where
    by : (t : Bool) → AllPairs Clear (if t then [] else run_of b k ∷ [])
    by true = no_pairs Clear
    by false = pairs_one Clear (run_of b k)

pub new_apart : (night : Night) (m : ℕ) (b : Block) → AllPairs Clear (new_runs night m b)
unfolding new_runs
new_apart night m b = by (has_come_by night m b)
  where
    by : (t : Bool) → AllPairs Clear (if t then option_runs night b b.park else [])
    by true = option_apart night b b.park
    by false = no_pairs Clear

-- ---- two blocks of one train

pub has_place : (night : Night) (b : Block) (place : ℕ) → 1 ≤ b.p → b.p ≤ place → place < b.p + b.n → has_unit night (shape_of b) (first_unit night b.arr.0 + (place - 1)) ≡ true
has_place night b place one from to = and_from _ _
    (le-leb (unit_from night (shape_of b)) (first_unit night b.arr.0 + (place - 1)) (omega arith))
    (lt-ltb (first_unit night b.arr.0 + (place - 1)) (unit_from night (shape_of b) + b.n) (omega arith))

-- blocks that share a place of one train are one
pub one_at : (night : Night) (blocks : List Block) (b c : Block) (place : ℕ) → ShareNothing night blocks → All (IsInRange night) blocks → In b blocks → In c blocks
    → b.arr.0 ≡ c.arr.0
    → b.p ≤ place → place < b.p + b.n → c.p ≤ place → place < c.p + c.n → b ≡ c
one_at night blocks b c place apart each i j same from to from' to' =
    let u = first_unit night b.arr.0 + (place - 1) in
    one_holder (λ x. has_unit night (shape_of x) u) blocks b c (apart.units u) i j
    (has_place night b place (one b i) from to)
    (subst (λ (a : ℕ). has_unit night (shape_of c) (first_unit night a + (place - 1)) ≡ true) (sym same) (has_place night c place (one c j) from' to'))
  where
    one : (x : Block) → In x blocks → 1 ≤ x.p
    one x i = (each_one (IsInRange night) blocks x each i).within.runs.p

-- ---- the runs of all blocks of a train

-- two runs share no unit, or a place
pub clear_or : (r s : PlacedRun) → 1 ≤ r.count → 1 ≤ s.count
    → Clear r s ⊎ ((place : ℕ) × (r.first ≤ place) × (place < r.first + r.count) × (s.first ≤ place) × (place < s.first + s.count))
clear_or r s one some = ⊎_elim
    (λ lt. ⊎_elim (λ more. ⊎_elim
    (λ before. inr (s.first, omega (arith, before), lt, omega arith, omega (arith, some)))
    (λ behind. inr (r.first, omega arith, omega (arith, one), behind, more))
    (cases_lt r.first s.first))
    (λ le. inl (inr le)) (cases_lt r.first (s.first + s.count)))
    (λ le. inl (inl le)) (cases_lt s.first (r.first + r.count))

abbrev no_train : Train
no_train = record { name = []; minute = 0; origin = origin.Platform (record { 0 = 0 }); units = []; placed = [] }

-- no two trains have one name
pub one_name : (night : Night) (a c : ℕ) → IsOrderedNight night → a < length night.arrive → c < length night.arrive
    → (train_at night.arrive a).name ≡ (train_at night.arrive c).name → a ≡ c
one_name night a c h la lc same = ⊎_elim
    (λ lt. absurd (h.timetable.arrive.names a c [] lt (omega (arith, lc, length-map night.arrive (λ (t : Train). t.name))) (named a la ∙ same ∙ sym (named c lc))))
    (λ ge. ⊎_elim (λ lt. absurd (h.timetable.arrive.names c a [] lt (omega (arith, la, length-map night.arrive (λ (t : Train). t.name)))
    (named c lc ∙ sym same ∙ sym (named a la))))
    (λ le. omega (arith, ge, le)) (cases_lt c a))
    (cases_lt a c)
  where
    named : (k : ℕ) → k < length night.arrive → get_or (names_of night.arrive) k [] ≡ (train_at night.arrive k).name
    named k lt = get_or-map (λ (t : Train). t.name) night.arrive k no_train [] lt

-- a run of the blocks of a train with a name comes of one of them
pub record FromBlock (night : Night) (m : ℕ) (blocks : List Block) (name : List ℕ) (r : PlacedRun) : Type 0 where
  pub block : Block
  pub there : In block blocks
  pub named : (train_at night.arrive block.arr.0).name ≡ name
  pub come : has_come_by night m block ≡ true
  pub comes : Comes night block r

of_named : (night : Night) (m : ℕ) (name : List ℕ) (b : Block) (r : PlacedRun) → In r (runs_for night m name b)
    → ((train_at night.arrive b.arr.0).name ≡ name) × In r (new_runs night m b)
of_named night m name b r i = by (bytes_eq (train_at night.arrive b.arr.0).name name) refl i
  where
    by : (t : Bool) → bytes_eq (train_at night.arrive b.arr.0).name name ≡ t → In r (if t then new_runs night m b else [])
        → ((train_at night.arrive b.arr.0).name ≡ name) × In r (new_runs night m b)
    by true e j = ((bytes_eq-Decides (train_at night.arrive b.arr.0).name name).0 e, j)
    by false e j = absurd j

pub from_block : (night : Night) (m : ℕ) (blocks : List Block) (name : List ℕ) (r : PlacedRun) → In r (train_runs night m blocks name) → FromBlock night m blocks name r
from_block night m blocks name r i =
    let at = of_flat (runs_for night m name) blocks r i in
    let own = of_named night m name at.0 r at.2 in
    let new = new_comes night m at.0 r own.1 in
    record { block = at.0; there = at.1; named = own.0; come = new.0; comes = new.1 }

pub in_train : (night : Night) (m : ℕ) (blocks : List Block) (b : Block) (r : PlacedRun) → In b blocks → In r (new_runs night m b)
    → In r (train_runs night m blocks (train_at night.arrive b.arr.0).name)
in_train night m blocks b r i j =
    let own = (bytes_eq-Decides (train_at night.arrive b.arr.0).name (train_at night.arrive b.arr.0).name).1 refl in
    in_flat (runs_for night m (train_at night.arrive b.arr.0).name) blocks b r i
    (subst (λ (l : List PlacedRun). In r l) (sym (cond-true (bytes_eq (train_at night.arrive b.arr.0).name (train_at night.arrive b.arr.0).name) (new_runs night m b) [] own)) j)

named_apart : (night : Night) (m : ℕ) (name : List ℕ) (b : Block) → AllPairs Clear (runs_for night m name b)
named_apart night m name b = by (bytes_eq (train_at night.arrive b.arr.0).name name)
  where
    by : (t : Bool) → AllPairs Clear (if t then new_runs night m b else [])
    by true = new_apart night m b
    by false = no_pairs Clear

module _ (night : Night) (m : ℕ) (name : List ℕ) (all : List Block) (h : IsOrderedNight night) (apart : ShareNothing night all) (each : All (IsInRange night) all) where
  -- runs of two blocks of one train that share a unit are of one block
  pub one_block : (b c : Block) (r s : PlacedRun) → In b all → In c all → b.arr.0 ≡ c.arr.0 → IsOf b r → IsOf c s → Clear r s ⊎ (b ≡ c)
  one_block b c r s i j same of_b of_c = ⊎_elim (λ clear. inl clear)
      (λ at. let p0 = of_b.from in let p1 = of_b.to in let q0 = of_c.from in let q1 = of_c.to in let a = at.1 in let d = at.2 in let e = at.3 in let f = at.4 in
      inr (one_at night all b c at.0 apart each i j same (omega (arith, p0, a)) (omega (arith, p1, d)) (omega (arith, q0, e)) (omega (arith, q1, f))))
      (clear_or r s of_b.some of_c.some)

  range_of : (b : Block) → In b all → IsInRange night b
  range_of b i = each_one (IsInRange night) all b each i

  pub one_train : (b c : Block) → In b all → In c all → (train_at night.arrive b.arr.0).name ≡ (train_at night.arrive c.arr.0).name → b.arr.0 ≡ c.arr.0
  one_train b c i j same = one_name night b.arr.0 c.arr.0 h (range_of b i).within.runs.arr (range_of c j).within.runs.arr same

  pub runs_apart : (blocks : List Block) → ((b : Block) → In b blocks → In b all) → AreDistinct (map (λ b. b.id) blocks) → AllPairs Clear (train_runs night m blocks name)
  runs_apart [] among ids = no_pairs Clear
  runs_apart (b ∷ blocks) among ids =
      subst (AllPairs Clear) (sym (flat_map-cons (runs_for night m name) b blocks))
      (pairs_append Clear (runs_for night m name b) (train_runs night m blocks name) (named_apart night m name b)
      (runs_apart blocks (λ c i. among c (inr i)) (λ i j d lt within. ids (suc i) (suc j) d (omega arith) (omega arith))) cross)
    where
      not_later : (b : Block) (blocks : List Block) (c : Block) → AreDistinct (map (λ b. b.id) (b ∷ blocks)) → In c blocks → b.id ≡ c.id → ⊥
      not_later b blocks c ids i same =
          let k = in_at (map (λ (b : Block). b.id) blocks) c.id 0 (in_map (λ (b : Block). b.id) blocks c i) in
          ids 0 (suc k.0) 0 (omega arith) (let lt = k.1 in omega (arith, lt)) (same ∙ sym k.2)
        where
          in_at : (xs : List ℕ) (x d : ℕ) → In x xs → (k : ℕ) × (k < length xs) × (get_or xs k d ≡ x)
          in_at [] x d i = absurd i
          in_at (y ∷ xs) x d (inl e) = (0, omega arith, sym e)
          in_at (y ∷ xs) x d (inr i) = let r = in_at xs x d i in (suc r.0, let lt = r.1 in omega arith, r.2)

      cross : (r s : PlacedRun) → In r (runs_for night m name b) → In s (train_runs night m blocks name) → Clear r s
      cross r s i j =
          let own = of_named night m name b r i in
          let f = from_block night m blocks name s j in
          let in_b = among b (inl refl) in
          let in_c = among f.block (inr f.there) in
          let of_b = comes_of night b r (range_of b in_b).within.runs.n (new_comes night m b r own.1).1 in
          let of_c = comes_of night f.block s (range_of f.block in_c).within.runs.n f.comes in
          ⊎_elim (λ clear. clear) (λ same. absurd (not_later b blocks f.block ids f.there (ap (λ (x : Block). x.id) same)))
          (one_block b f.block r s in_b in_c (one_train b f.block in_b in_c (own.0 ∙ sym f.named)) of_b of_c)
