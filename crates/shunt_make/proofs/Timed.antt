-- The made timetable is well formed over the made station.
use Rattle.std.proofs.Common.{◌≡◌, ℕ, ◌+◌, ◌*◌, ◌%◌, ◌<◌, ◌≤◌, Bool, true, false, cond, not, ◌&&◌, ◌==◌, List, [], ◌∷◌, ◌++◌, length, map, reverse, refl, sym, ap, ◌∙◌, subst, arith}
use Rattle.std.specs.Prelude.{All, IsTrue, filter}
use Rattle.std.specs.List.{AllByRecursion, range_with_len}
use Rattle.std.proofs.lemmas.Nat.{mod_below}
use Rattle.std.proofs.lemmas.Bool.{true≢false, cond-false, ne_eqb}
use Rattle.std.proofs.lemmas.List.{length-reverse, length-map}
use Rattle.std.proofs.lemmas.List.Elements.{All-head, All-tail, All-map, All-weaker, recursion_from_All}
use Rattle.std.proofs.lemmas.List.FromFn.{length-range_with_len}
use Rattle.std.proofs.lemmas.List.Sorted.{All-permutation, IsPermutation-reverse}
use Rattle.std.proofs.lemmas.List.Sums.{sum_by-cons}
use Rattle.shunt_lists.specs.defs.Members.{AreDistinct}
use Rattle.shunt_lists.proofs.Members.{filter_yes, filter_no}
use Rattle.shunt_base.specs.defs.Spelling.{IsName, is_name_byte}
use Rattle.shunt_base.specs.declared.ids.TypeId.{TypeId}
use Rattle.shunt_instance.specs.declared.records.Station.{Station}
use Rattle.shunt_instance.specs.declared.records.Train.{Train}
use Rattle.shunt_instance.proofs.Placed.{none_placed}
use Rattle.shunt_instance.specs.defs.Words.{is_standing, unit_count, names_of, train_at}
use Rattle.shunt_instance.specs.defs.Wellformed.{IsOrigin, IsTrain, AreTrains, StandingFirst, IsTimetable}
use Rattle.shunt_make.specs.defs.Draws.{next, after, drawn, drawn_for}
use Rattle.shunt_make.specs.defs.Made.{numbered, train_count, train_of, size_of, kind_of, arriving_of, arriving, turned, departing_of, departing, timetable_of}
use Rattle.shunt_make.proofs.Chain.{drawn_length, drawn_all, drawn_map, range_in}
use Rattle.shunt_make.proofs.Spelled.{named, apart, distinct_over}
use Rattle.shunt_make.proofs.Formed.{drawn_below}

-- one or two units of the first three types
pub record AreKinds (kinds : List TypeId) : Type 0 where
  pub some : 1 ≤ length kinds
  pub few : length kinds ≤ 2
  pub each : All (λ k. k.0 < 3) kinds

-- a train that moves, at a minute from this one on and at most 474 after it
pub record IsMade (s : Station) (first : ℕ) (t : Train) : Type 0 where
  pub name : IsName t.name
  pub from : first ≤ t.minute
  pub until : t.minute ≤ first + 474
  pub origin : IsOrigin s t.origin
  pub moving : is_standing t ≡ false
  pub kinds : AreKinds t.units
  pub placed : t.placed ≡ []

made_train : (s : Station) (letter first i platform : ℕ) (kinds : List TypeId) → length s.platforms ≡ 2 → is_name_byte letter ≡ true → i < 80 → platform < 2 → AreKinds kinds
    → IsMade s first (train_of letter first i platform kinds)
made_train s letter first i platform kinds two is small below are = record {
  name = named letter (i + 1) is (omega arith);
  from = omega arith;
  until = omega arith;
  origin = omega arith;
  moving = refl;
  kinds = are;
  placed = refl;
}

one_of_two : (b : Bool) (m n top : ℕ) → m ≤ top → n ≤ top → cond b m n ≤ top
one_of_two true m n top h g = h
one_of_two false m n top h g = g

some_of_two : (b : Bool) (m n low : ℕ) → low ≤ m → low ≤ n → low ≤ cond b m n
some_of_two true m n low h g = h
some_of_two false m n low h g = g

-- ---- arriving trains

drawn_kinds : (x n : ℕ) → 1 ≤ n → n ≤ 2 → AreKinds (drawn_for kind_of x (range_with_len 0 n))
drawn_kinds x n some few =
    let long : length (drawn_for kind_of x (range_with_len 0 n)) ≡ n = drawn_length kind_of x (range_with_len 0 n) ∙ length-range_with_len 0 n in record {
      some = omega arith;
      few = omega arith;
      each = drawn_all kind_of (λ (k : ℕ). (0 ≤ k) × (k < 0 + n)) (λ t. t.0 < 3) (λ k y q. drawn_below y 3 (omega arith)) x (range_with_len 0 n) (range_in 0 n);
    }

arriving_made : (s : Station) (x units i : ℕ) → length s.platforms ≡ 2 → i < 80 → IsMade s 1200 (arriving_of x units i)
arriving_made s x units i two small =
    let last = units % 2 == 1 && i + 1 == train_count units in
    let below : cond (i % 2 == 0) 0 1 ≤ 1 = one_of_two (i % 2 == 0) 0 1 1 (omega arith) (omega arith) in
    made_train s 97 1200 i (cond (i % 2 == 0) 0 1) (drawn_for kind_of (after x (2 * i)) (range_with_len 0 (size_of units i))) two refl small (omega arith)
    (drawn_kinds (after x (2 * i)) (size_of units i) (some_of_two last 1 2 1 (omega arith) (omega arith)) (one_of_two last 1 2 2 (omega arith) (omega arith)))

pub arriving_all : (s : Station) (x units : ℕ) → length s.platforms ≡ 2 → units ≤ 160 → All (IsMade s 1200) (arriving x units)
unfolding arriving
arriving_all s x units two few =
    All-map (IsMade s 1200) (arriving_of x units) (range_with_len 0 (train_count units))
    (All-weaker (λ i. (0 ≤ i) × (i < 0 + train_count units)) (λ i. IsMade s 1200 (arriving_of x units i)) (λ i q. arriving_made s x units i two (omega (arith, q.1, few)))
    (range_with_len 0 (train_count units)) (range_in 0 (train_count units)))

pub arriving_length : (x units : ℕ) → length (arriving x units) ≡ train_count units
unfolding arriving
arriving_length x units = length-map (range_with_len 0 (train_count units)) (arriving_of x units) ∙ length-range_with_len 0 (train_count units)

-- names of one letter and of numbers from 1 on
names_differ : (letter n : ℕ) → n ≤ 80 → AreDistinct (map (λ (i : ℕ). numbered letter (i + 1)) (range_with_len 0 n))
names_differ letter n few = distinct_over (λ (i : ℕ). numbered letter (i + 1)) 0 n (λ i j lt small e. apart letter (i + 1) (j + 1) (omega arith) (omega arith) e)

map_map : {X Y Z : Type 0} (f : Y → Z) (g : X → Y) (h : X → Z) → ((x : X) → f (g x) ≡ h x) → (xs : List X) → map f (map g xs) ≡ map h xs
map_map f g h same [] = refl
map_map {X} {Y} {Z} f g h same (x ∷ xs) = ap (λ (l : List Z). f (g x) ∷ l) (map_map f g h same xs) ∙ ap (λ (z : Z). z ∷ map h xs) (same x)

arriving_names : (x units : ℕ) → units ≤ 160 → AreDistinct (names_of (arriving x units))
unfolding arriving
arriving_names x units few =
    subst (λ (names : List (List ℕ)). AreDistinct names) (sym (map_map (λ (t : Train). t.name) (arriving_of x units) (λ i. numbered 97 (i + 1)) (λ i. refl)
    (range_with_len 0 (train_count units))))
    (names_differ 97 (train_count units) (omega arith))

-- ---- departing trains

-- where there are no arriving trains, none are drawn either way
pub departing_is : (x : ℕ) (arrive : List Train) → departing x arrive ≡ drawn_for (departing_of arrive (drawn (next x) (length arrive))) (next x) (range_with_len 0 (length arrive))
unfolding departing
departing_is x [] = refl
departing_is x (t ∷ ts) = cond-false (length (t ∷ ts) == 0) [] _ (ne_eqb (length (t ∷ ts)) 0 (λ e. omega arith))

turned_kinds : (x : ℕ) (kinds : List TypeId) → AreKinds kinds → AreKinds (turned x kinds)
turned_kinds x kinds are = by (drawn x 2 == 1)
  where
    by : (b : Bool) → AreKinds (cond b (reverse kinds) kinds)
    by true = record {
      some = omega (arith, are.some, length-reverse kinds);
      few = omega (arith, are.few, length-reverse kinds);
      each = All-permutation (λ k. k.0 < 3) kinds (reverse kinds) (IsPermutation-reverse kinds) are.each;
    }
    by false = are

departing_made : (s : Station) (arrive : List Train) (shift i x : ℕ) → length s.platforms ≡ 2 → All (IsMade s 1200) arrive → i < length arrive → length arrive ≤ 80
    → IsMade s 1740 (departing_of arrive shift i x)
departing_made s arrive shift i x two all small few =
    let like : IsMade s 1200 (train_at arrive ((i + shift) % length arrive)) = all ((i + shift) % length arrive) _ (mod_below (i + shift) (length arrive) (omega arith)) in
    let below : cond (i % 2 == 0) 1 0 ≤ 1 = one_of_two (i % 2 == 0) 1 0 1 (omega arith) (omega arith) in
    made_train s 100 1740 i (cond (i % 2 == 0) 1 0) (turned x (train_at arrive ((i + shift) % length arrive)).units) two refl (omega arith) (omega arith)
    (turned_kinds x (train_at arrive ((i + shift) % length arrive)).units like.kinds)

pub departing_all : (s : Station) (x : ℕ) (arrive : List Train) → length s.platforms ≡ 2 → All (IsMade s 1200) arrive → length arrive ≤ 80
    → All (IsMade s 1740) (departing x arrive)
departing_all s x arrive two all few =
    subst (λ (ts : List Train). All (IsMade s 1740) ts) (sym (departing_is x arrive))
    (drawn_all (departing_of arrive (drawn (next x) (length arrive))) (λ i. (0 ≤ i) × (i < 0 + length arrive)) (IsMade s 1740)
    (λ i y q. departing_made s arrive (drawn (next x) (length arrive)) i y two all (omega (arith, q.1)) few) (next x) (range_with_len 0 (length arrive))
    (range_in 0 (length arrive)))

pub departing_length : (x : ℕ) (arrive : List Train) → length (departing x arrive) ≡ length arrive
departing_length x arrive =
    ap length (departing_is x arrive)
    ∙ drawn_length (departing_of arrive (drawn (next x) (length arrive))) (next x) (range_with_len 0 (length arrive))
    ∙ length-range_with_len 0 (length arrive)

departing_names : (x : ℕ) (arrive : List Train) → length arrive ≤ 80 → AreDistinct (names_of (departing x arrive))
departing_names x arrive few =
    subst (λ (names : List (List ℕ)). AreDistinct names)
    (sym (ap names_of (departing_is x arrive) ∙ drawn_map (departing_of arrive (drawn (next x) (length arrive))) (λ (t : Train). t.name) (λ (i : ℕ). numbered 100 (i + 1))
    (λ i y. refl) (next x) (range_with_len 0 (length arrive))))
    (names_differ 100 (length arrive) few)

-- ---- both

few_units : (s : Station) (first : ℕ) (ts : List Train) → All (IsMade s first) ts → unit_count ts ≤ 2 * length ts
few_units s first [] all = omega arith
few_units s first (t ∷ ts) all =
    omega (arith, sum_by-cons (λ (u : Train). length u.units) t ts, (All-head (IsMade s first) t ts all).kinds.few, few_units s first ts (All-tail (IsMade s first) t ts all))

a_train : (s : Station) (first : ℕ) (t : Train) → 3 ≤ length s.types → first ≤ 1740 → IsMade s first t → IsTrain s t
a_train s first t three early m = record {
  name = m.name;
  minute = omega (arith, m.until);
  origin = m.origin;
  some = m.kinds.some;
  few = omega (arith, m.kinds.few);
  kinds = All-weaker (λ k. k.0 < 3) (λ k. k.0 < length s.types) (λ k lt. omega (arith, lt, three)) t.units m.kinds.each;
  placed = none_placed s t m.placed;
}

are_trains : (s : Station) (first : ℕ) (ts : List Train) → 3 ≤ length s.types → first ≤ 1740 → length ts ≤ 80 → All (IsMade s first) ts → AreDistinct (names_of ts) → AreTrains s ts
are_trains s first ts three early few all names = record {
  few = omega arith;
  units = omega (arith, few_units s first ts all, few);
  each = All-weaker (IsMade s first) (IsTrain s) (λ t m. a_train s first t three early m) ts all;
  names = names;
}

abbrev is_moving : Train → Bool
is_moving t = not (is_standing t)

none_stand : (ts : List Train) → AllByRecursion (λ t. is_standing t ≡ false) ts → filter is_standing ts ≡ []
none_stand [] h = refl
none_stand (t ∷ ts) h = filter_no is_standing t ts h.0 ∙ none_stand ts h.1

all_move : (ts : List Train) → AllByRecursion (λ t. is_standing t ≡ false) ts → filter is_moving ts ≡ ts
all_move [] h = refl
all_move (t ∷ ts) h = filter_yes is_moving t ts (ap not h.0) ∙ ap (λ (l : List Train). t ∷ l) (all_move ts h.1)

moving_first : (ts : List Train) → AllByRecursion (λ t. is_standing t ≡ false) ts → StandingFirst ts
moving_first ts h = sym (ap (λ (l : List Train). l ++ filter is_moving ts) (none_stand ts h) ∙ all_move ts h)

pub trains_formed : (s : Station) (arrive depart : List Train) → 3 ≤ length s.types → length arrive ≤ 80 → length depart ≤ 80 → All (IsMade s 1200) arrive
    → All (IsMade s 1740) depart → AreDistinct (names_of arrive) → AreDistinct (names_of depart) → IsTimetable s (record { arrive = arrive; depart = depart })
trains_formed s arrive depart three few fewer all others names other_names = record {
  arrive = are_trains s 1200 arrive three (omega arith) few all names;
  depart = are_trains s 1740 depart three (omega arith) fewer others other_names;
  first = moving_first arrive (recursion_from_All (λ t. is_standing t ≡ false) arrive (All-weaker (IsMade s 1200) (λ t. is_standing t ≡ false) (λ t m. m.moving) arrive all));
  at_start = All-weaker (IsMade s 1200) (λ t. IsTrue (is_standing t) → t.minute ≡ 0) (λ t m stands. absurd (true≢false (sym stands ∙ m.moving))) arrive all;
  from_platform = All-weaker (IsMade s 1740) (λ t. is_standing t ≡ false) (λ t m. m.moving) depart others;
  to_come = All-weaker (IsMade s 1740) (λ t. t.placed ≡ []) (λ t m. m.placed) depart others;
}

pub timetable_formed : (s : Station) (x units : ℕ) → length s.platforms ≡ 2 → 3 ≤ length s.types → units ≤ 160 → IsTimetable s (timetable_of x units)
unfolding timetable_of
timetable_formed s x units two three few =
    let short : length (arriving x units) ≤ 80 = omega (arith, arriving_length x units) in
    let all = arriving_all s x units two few in
    trains_formed s (arriving x units) (departing (after x units) (arriving x units)) three short
    (omega (arith, departing_length (after x units) (arriving x units))) all (departing_all s (after x units) (arriving x units) two all short)
    (arriving_names x units few) (departing_names (after x units) (arriving x units) short)
