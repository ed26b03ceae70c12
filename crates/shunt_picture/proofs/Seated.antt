-- Rows of seats, and bars that are made of seats.
use Rattle.std.proofs.Common.{◌≡◌, ◌≢◌, ⊎_elim, ℕ, Bool, false, max, ◌+◌, ◌<◌, ◌≤◌, List, [], ◌∷◌, ◌++◌, length, get_or, map, take, sym, subst, ap, ◌∙◌, arith, Ordering}
use Rattle.std.specs.Prelude.{All, AllPairs, IsTrue}
use Rattle.std.specs.List.Sorted.{IsSortedByKey}
use Rattle.std.specs.Ordering.{is_lt}
use Rattle.std.proofs.lemmas.Bool.{cases_lt}
use Rattle.std.proofs.lemmas.List.{get_or-map, length-map, length_push, map-append, take_more}
use Rattle.std.proofs.lemmas.List.Quantifiers.{all_pairs_push}
use Rattle.std.proofs.lemmas.List.Elements.{All-weaker, All-push}
use Rattle.shunt_picture.specs.declared.track_stays.Standing.{Standing}
use Rattle.shunt_picture.specs.declared.rows.StaySeat.{StaySeat}
use Rattle.shunt_picture.specs.defs.Rows.{AreRowsApart, HaveRoom, ShowsOrder, IsBeyond, IsRowAmong}

-- with one more seat there are more rows
pub among_more : (n m : ℕ) (seats : List StaySeat) → n ≤ m → All (λ s. IsRowAmong n s.row) seats → All (λ s. IsRowAmong m s.row) seats
among_more n m seats le = All-weaker (λ s. IsRowAmong n s.row) (λ s. IsRowAmong m s.row)
    (λ s h. record { from = let a = h.from in omega (arith, a, le); to = let b = h.to in omega (arith, b, le) }) seats

-- ---- lists of one thing made of another

pub pairs_mapped : {X Y : Type 0} (R : Y → Y → Type 0) (f : X → Y) (xs : List X) → AllPairs (λ a b. R (f a) (f b)) xs → AllPairs R (map f xs)
pairs_mapped R f [] h = λ i j d lt within. absurd (omega (arith, within))
pairs_mapped {X} R f (x ∷ xs) h = λ i j d lt within.
    let inside : j < length (x ∷ xs) = omega (arith, within, length-map (x ∷ xs) f) in
    let first = get_or-map f (x ∷ xs) i x d (omega (arith, lt, inside)) in
    let second = get_or-map f (x ∷ xs) j x d inside in
    subst (λ a. R a (get_or (map f (x ∷ xs)) j d)) (sym first) (subst (R (f (get_or (x ∷ xs) i x))) (sym second) (h i j x lt inside))

pub sorted_mapped : {X Y K : Type 0} (key : Y → K) (cmp : K → K → Ordering) (f : X → Y) (xs : List X) → IsSortedByKey (λ x. key (f x)) cmp xs → IsSortedByKey key cmp (map f xs)
sorted_mapped key cmp f [] s = λ k d low high. absurd (omega (arith, high))
sorted_mapped key cmp f (x ∷ xs) s = λ k d low high.
    let inside : k + 1 < length (x ∷ xs) = omega (arith, high, length-map (x ∷ xs) f) in
    let here = get_or-map f (x ∷ xs) k x d (omega (arith, inside)) in
    let next = get_or-map f (x ∷ xs) (k + 1) x d inside in
    ap (λ n. is_lt (cmp (key n) (key (get_or (map f (x ∷ xs)) k d)))) next ∙ ap (λ n. is_lt (cmp (key (f (get_or (x ∷ xs) (k + 1) x))) (key n))) here ∙ s k x low inside

pub sorted_back : {X Y K : Type 0} (key : Y → K) (cmp : K → K → Ordering) (f : X → Y) (xs : List X) → IsSortedByKey key cmp (map f xs) → IsSortedByKey (λ x. key (f x)) cmp xs
sorted_back key cmp f xs s = λ k d low high.
    let inside : k + 1 < length (map f xs) = omega (arith, high, length-map xs f) in
    let here = get_or-map f xs k d (f d) (omega (arith, high)) in
    let next = get_or-map f xs (k + 1) d (f d) high in
    sym (ap (λ n. is_lt (cmp (key n) (key (get_or (map f xs) k (f d))))) next ∙ ap (λ n. is_lt (cmp (key (f (get_or xs (k + 1) d))) (key n))) here) ∙ s k (f d) low inside

-- what is true of what each is made into
pub all_back : {X Y : Type 0} (P : Y → Type 0) (f : X → Y) (xs : List X) → All P (map f xs) → All (λ x. P (f x)) xs
all_back P f xs h = λ k d lt. subst P (get_or-map f xs k d (f d) lt) (h k (f d) (omega (arith, lt, length-map xs f)))

-- ---- one more seat

-- a seat keeps its row until its leave, and long enough for its marks where rows show no order
pub record IsLate (from : ℕ) (is_ordered : Bool) (s : StaySeat) : Type 0 where
  pub leave : s.standing.stay.leave.minute ≤ s.until
  pub enter : s.standing.stay.enter.minute ≤ s.until
  pub room : is_ordered ≡ false → max s.standing.stay.enter.minute from + 70 ≤ s.until

abbrev pub AreLate : ℕ → Bool → List StaySeat → Type 0
AreLate from is_ordered seats = All (IsLate from is_ordered) seats

-- what is true of the seats of the first stays
pub record AreSeats (standings : List Standing) (from : ℕ) (is_ordered : Bool) (i : ℕ) (seats : List StaySeat) : Type 0 where
  pub count : length seats ≡ i
  pub same : map (λ s. s.standing) seats ≡ take i standings
  pub apart : AllPairs AreRowsApart seats
  pub room : AllPairs (HaveRoom from is_ordered) seats
  pub order : IsTrue is_ordered → AllPairs ShowsOrder seats
  pub late : AreLate from is_ordered seats
  pub among : All (λ s. IsRowAmong (length seats) s.row) seats

-- a row that is free while a stay enters, and one that is beyond those that stand then
abbrev IsFree : Standing → ℕ → List StaySeat → Type 0
IsFree x row seats = All (λ s. x.stay.enter.minute < s.until → s.row ≢ row) seats

abbrev AreBehind : Standing → ℕ → List StaySeat → Type 0
AreBehind x row seats = All (λ s. x.stay.enter.minute < s.until → IsBeyond x.stay.side_in row s.row) seats

apart_more : (from : ℕ) (o : Bool) (seats : List StaySeat) (y : StaySeat) → AllPairs AreRowsApart seats → AreLate from o seats → IsFree y.standing y.row seats
    → AllPairs AreRowsApart (seats ++ y ∷ [])
apart_more from o seats y pairs late free = all_pairs_push AreRowsApart seats y pairs (λ k d lt is.
    let behind = (late k d lt).leave in
    ⊎_elim (λ before. absurd (free k d lt before is)) (λ le. omega (arith, behind, le)) (cases_lt y.standing.stay.enter.minute (get_or seats k d).until))

room_more : (from : ℕ) (o : Bool) (seats : List StaySeat) (y : StaySeat) → AllPairs (HaveRoom from o) seats → AreLate from o seats → IsFree y.standing y.row seats
    → AllPairs (HaveRoom from o) (seats ++ y ∷ [])
room_more from o seats y pairs late free = all_pairs_push (HaveRoom from o) seats y pairs (λ k d lt. record {
  first = λ is.
      let behind = (late k d lt).enter in
      ⊎_elim (λ before. absurd (free k d lt before is)) (λ le. omega (arith, behind, le)) (cases_lt y.standing.stay.enter.minute (get_or seats k d).until);
  marks = λ unordered is.
      let behind = (late k d lt).room unordered in
      ⊎_elim (λ before. absurd (free k d lt before is)) (λ le. omega (arith, behind, le)) (cases_lt y.standing.stay.enter.minute (get_or seats k d).until);
})

order_more : (from : ℕ) (o : Bool) (seats : List StaySeat) (y : StaySeat) → AllPairs ShowsOrder seats → AreLate from o seats → AreBehind y.standing y.row seats
    → AllPairs ShowsOrder (seats ++ y ∷ [])
order_more from o seats y pairs late beyond = all_pairs_push ShowsOrder seats y pairs (λ k d lt stands.
    let behind = (late k d lt).leave in
    beyond k d lt (omega (arith, behind, stands)))

among_push : (seats : List StaySeat) (y : StaySeat) → All (λ s. IsRowAmong (length seats) s.row) seats → IsRowAmong (length seats + 1) y.row
    → All (λ s. IsRowAmong (length (seats ++ y ∷ [])) s.row) (seats ++ y ∷ [])
among_push seats y among here =
    let longer : length (seats ++ y ∷ []) ≡ length seats + 1 = length_push seats y in
    All-push (λ s. IsRowAmong (length (seats ++ y ∷ [])) s.row) seats y (among_more (length seats) (length (seats ++ y ∷ [])) seats (omega (arith, longer)) among)
    (subst (λ n. IsRowAmong n y.row) (sym longer) here)

pushed : (standings : List Standing) (from : ℕ) (is_ordered : Bool) (i : ℕ) (d : Standing) (seats : List StaySeat) (y : StaySeat) → i < length standings
    → length seats ≡ i → map (λ s. s.standing) seats ≡ take i standings → AllPairs AreRowsApart seats → AllPairs (HaveRoom from is_ordered) seats
    → (IsTrue is_ordered → AllPairs ShowsOrder seats) → AreLate from is_ordered seats → All (λ s. IsRowAmong (length seats) s.row) seats
    → y.standing ≡ get_or standings i d → IsLate from is_ordered y → IsFree y.standing y.row seats → (IsTrue is_ordered → AreBehind y.standing y.row seats)
    → IsRowAmong (length seats + 1) y.row
    → AreSeats standings from is_ordered (i + 1) (seats ++ y ∷ [])
pushed standings from is_ordered i d seats y lt count same apart room order late among of until free beyond row = record {
  count = omega (arith, count, length_push seats y);
  same = map-append (λ (s : StaySeat). s.standing) seats (y ∷ []) ∙ ap (λ (l : List Standing). l ++ y.standing ∷ []) same ∙ ap (λ (s : Standing). take i standings ++ s ∷ []) of
      ∙ sym (take_more standings i d lt);
  apart = apart_more from is_ordered seats y apart late free;
  room = room_more from is_ordered seats y room late free;
  order = λ t. order_more from is_ordered seats y (order t) late (beyond t);
  late = All-push (IsLate from is_ordered) seats y late until;
  among = among_push seats y among row;
}

pub seats_more : (standings : List Standing) (from : ℕ) (is_ordered : Bool) (i : ℕ) (d : Standing) (seats seen more : List StaySeat) (y : StaySeat) → i < length standings
    → length seats ≡ i → map (λ s. s.standing) seats ≡ take i standings → AllPairs AreRowsApart seats → AllPairs (HaveRoom from is_ordered) seats
    → (IsTrue is_ordered → AllPairs ShowsOrder seats) → AreLate from is_ordered seats → All (λ s. IsRowAmong (length seats) s.row) seats
    → seen ≡ seats → y.standing ≡ get_or standings i d → (get_or standings i d).stay.leave.minute ≤ y.until → (get_or standings i d).stay.enter.minute ≤ y.until
    → (is_ordered ≡ false → max (get_or standings i d).stay.enter.minute from + 70 ≤ y.until)
    → IsFree (get_or standings i d) y.row seen → (IsTrue is_ordered → AreBehind (get_or standings i d) y.row seen) → IsRowAmong (length seen + 1) y.row → more ≡ seats ++ y ∷ []
    → AreSeats standings from is_ordered (i + 1) more
seats_more standings from is_ordered i d seats seen more y lt count same apart room order late among is of until enter fifty free beyond row push =
    subst (AreSeats standings from is_ordered (i + 1)) (sym push)
    (pushed standings from is_ordered i d seats y lt count same apart room order late among of
    (record {
      leave = subst (λ (s : Standing). s.stay.leave.minute ≤ y.until) (sym of) until;
      enter = subst (λ (s : Standing). s.stay.enter.minute ≤ y.until) (sym of) enter;
      room = λ e. subst (λ (s : Standing). max s.stay.enter.minute from + 70 ≤ y.until) (sym of) (fifty e);
    })
    (subst (λ (s : Standing). IsFree s y.row seats) (sym of) (subst (IsFree (get_or standings i d) y.row) is free))
    (λ t. subst (λ (s : Standing). AreBehind s y.row seats) (sym of) (subst (AreBehind (get_or standings i d) y.row) is (beyond t)))
    (subst (λ (l : List StaySeat). IsRowAmong (length l + 1) y.row) is row))
