-- Counts of the units of each type: a made night has as many of its arriving trains as of its departing ones.
use native.Mathlib.Nat.{mod-eq_of_lt, add-mod_left}
use Rattle.std.proofs.Common.{◌≡◌, ℕ, zero, suc, ◌+◌, ◌%◌, Bool, true, false, cond, ◌==◌, List, [], ◌∷◌, ◌++◌, length, map, reverse, refl, sym, ap, ◌∙◌, arith, sum_by}
use Rattle.std.specs.List.{range_with_len}
use Rattle.std.proofs.lemmas.List.{map-append}
use Rattle.std.proofs.lemmas.List.Sorted.{IsPermutation-reverse, sum_by-IsPermutation}
use Rattle.std.proofs.lemmas.List.Sums.{sum_by-cons, sum_by_push}
use Rattle.shunt_lists.specs.defs.Below.{count_below, sum_below}
use Rattle.shunt_lists.proofs.SumsBelow.{sum_below-same}
use Rattle.shunt_base.specs.declared.ids.TypeId.{TypeId}
use Rattle.shunt_instance.specs.declared.records.Train.{Train}
use Rattle.shunt_instance.specs.defs.Words.{train_at}
use Rattle.shunt_instance.specs.defs.Instance.{numbered_from, numbered_through}
use Rattle.shunt_instance.specs.defs.Matching.{Entry}
use Rattle.shunt_matching.specs.defs.Counts.{is_of_kind, count_of_kind}
use Rattle.shunt_make.specs.defs.Draws.{next, after, drawn, drawn_for}
use Rattle.shunt_make.specs.defs.Made.{turned, departing_of, departing}
use Rattle.shunt_make.proofs.Chain.{numbered_more}
use Rattle.shunt_make.proofs.Timed.{departing_is}

-- ---- sums from the front

count_front : (n : ℕ) (p : ℕ → Bool) → count_below (suc n) p ≡ cond (p 0) 1 0 + count_below n (λ i. p (suc i))
count_front zero p = omega arith
count_front (suc n) p = omega (arith, count_front n p)

sum_front : (n : ℕ) (f : ℕ → ℕ) → sum_below (suc n) f ≡ f 0 + sum_below n (λ i. f (suc i))
sum_front zero f = omega arith
sum_front (suc n) f = omega (arith, sum_front n f)

sum_at : (f : Train → ℕ) (ts : List Train) → sum_by f ts ≡ sum_below (length ts) (λ i. f (train_at ts i))
sum_at f [] = refl
sum_at f (t ∷ ts) = sum_by-cons f t ts ∙ ap (λ n. f t + n) (sum_at f ts) ∙ sym (sum_front (length ts) (λ i. f (train_at (t ∷ ts) i)))

-- ---- how many units of a type some trains have

abbrev pub one_if : ℕ → TypeId → ℕ
one_if kind k = cond (k.0 == kind) 1 0

-- among these types
abbrev pub many : ℕ → List TypeId → ℕ
many kind kinds = sum_by (one_if kind) kinds

abbrev pub own : ℕ → Train → ℕ
own kind t = many kind t.units

tally : ℕ → List ℕ → ℕ
tally kind [] = 0
tally kind (k ∷ ks) = cond (k == kind) 1 0 + tally kind ks

tally_append : (kind : ℕ) (xs ys : List ℕ) → tally kind (xs ++ ys) ≡ tally kind xs + tally kind ys
unfolding tally
tally_append kind [] ys = omega arith
tally_append kind (x ∷ xs) ys = omega (arith, tally_append kind xs ys)

counted : (es : List Entry) (kind : ℕ) → count_of_kind es [] kind ≡ tally kind (map (λ e. e.kind) es)
unfolding tally
counted [] kind = refl
counted (e ∷ es) kind = count_front (length es) (is_of_kind (e ∷ es) [] kind) ∙ ap (λ n. cond (e.kind == kind) 1 0 + n) (counted es kind)

many_is : (kind : ℕ) (kinds : List TypeId) → tally kind (map (λ k. k.0) kinds) ≡ many kind kinds
unfolding tally
many_is kind [] = refl
many_is kind (k ∷ kinds) = ap (λ n. cond (k.0 == kind) 1 0 + n) (many_is kind kinds) ∙ sym (sum_by-cons (one_if kind) k kinds)

module _ {X : Type 0} (make : ℕ → ℕ → TypeId → X) (entry : X → Entry) (keeps : (a p : ℕ) (k : TypeId) → (entry (make a p k)).kind ≡ k.0) where
  in_train : (a p : ℕ) (kinds : List TypeId) → map (λ (e : Entry). e.kind) (map entry (numbered_from make a p kinds)) ≡ map (λ (k : TypeId). k.0) kinds
  in_train a p [] = refl
  in_train a p (k ∷ kinds) =
      ap (λ (l : List ℕ). (entry (make a p k)).kind ∷ l) (in_train a (p + 1) kinds) ∙ ap (λ (n : ℕ). n ∷ map (λ (j : TypeId). j.0) kinds) (keeps a p k)

  in_trains : (a kind : ℕ) (ts : List Train) → tally kind (map (λ (e : Entry). e.kind) (map entry (numbered_through make a ts))) ≡ sum_by (own kind) ts
  unfolding tally
  in_trains a kind [] = refl
  in_trains a kind (t ∷ ts) =
      ap (λ (l : List Entry). tally kind (map (λ (e : Entry). e.kind) l)) (map-append entry (numbered_from make a 1 t.units) (numbered_through make (a + 1) ts))
      ∙ ap (tally kind) (map-append (λ (e : Entry). e.kind) (map entry (numbered_from make a 1 t.units)) (map entry (numbered_through make (a + 1) ts)))
      ∙ tally_append kind (map (λ (e : Entry). e.kind) (map entry (numbered_from make a 1 t.units))) (map (λ (e : Entry). e.kind) (map entry (numbered_through make (a + 1) ts)))
      ∙ ap (λ (n : ℕ). n + tally kind (map (λ (e : Entry). e.kind) (map entry (numbered_through make (a + 1) ts)))) (ap (tally kind) (in_train a 1 t.units) ∙ many_is kind t.units)
      ∙ ap (λ (n : ℕ). own kind t + n) (in_trains (a + 1) kind ts)
      ∙ sym (sum_by-cons (own kind) t ts)

  pub count_of_trains : (kind : ℕ) (ts : List Train) → count_of_kind (map entry (numbered_through make 0 ts)) [] kind ≡ sum_by (own kind) ts
  count_of_trains kind ts = counted (map entry (numbered_through make 0 ts)) kind ∙ in_trains 0 kind ts

-- ---- the departing trains have those of the arriving ones

-- once round, from one place further
one_further : (n : ℕ) (g : ℕ → ℕ) → g n ≡ g 0 → sum_below n (λ i. g (suc i)) ≡ sum_below n g
one_further n g e = omega (arith, sum_front n g, e)

-- once round, from any place
round : (n : ℕ) (h : ℕ → ℕ) (s : ℕ) → sum_below n (λ i. h ((i + s) % n)) ≡ sum_below n h
round n h zero = sum_below-same n (λ i. h ((i + 0) % n)) h (λ i lt. let none : i + 0 ≡ i = omega arith in ap (λ k. h (k % n)) none ∙ ap h (mod-eq_of_lt lt))
round n h (suc s) =
    let start : s ≡ 0 + s = omega arith in
    sum_below-same n (λ i. h ((i + suc s) % n)) (λ i. h ((suc i + s) % n)) (λ i lt. let further : i + suc s ≡ suc i + s = omega arith in ap (λ k. h (k % n)) further)
    ∙ one_further n (λ i. h ((i + s) % n)) (ap h (add-mod_left n s ∙ ap (λ k. k % n) start))
    ∙ round n h s

sum_drawn : (make : ℕ → ℕ → Train) (f : Train → ℕ) (g : ℕ → ℕ) → ((i x : ℕ) → f (make i x) ≡ g i) → (x n : ℕ) → sum_by f (drawn_for make x (range_with_len 0 n)) ≡ sum_below n g
sum_drawn make f g h x zero = refl
sum_drawn make f g h x (suc n) =
    let longer : suc n ≡ n + 1 = omega arith in
    let plain : 0 + n ≡ n = omega arith in
    ap (λ m. sum_by f (drawn_for make x (range_with_len 0 m))) longer
    ∙ ap (sum_by f) (numbered_more make x 0 n)
    ∙ sum_by_push f (drawn_for make x (range_with_len 0 n)) (make (0 + n) (next (after x n)))
    ∙ ap (λ m. m + f (make (0 + n) (next (after x n)))) (sum_drawn make f g h x n)
    ∙ ap (λ m. sum_below n g + m) (h (0 + n) (next (after x n)) ∙ ap g plain)

-- what doesn't see the order of a train's types
module _ (value : List TypeId → ℕ) (either_way : (kinds : List TypeId) → value (reverse kinds) ≡ value kinds) where
  turned_same : (x : ℕ) (kinds : List TypeId) → value (turned x kinds) ≡ value kinds
  turned_same x kinds = by (drawn x 2 == 1)
    where
      by : (b : Bool) → value (cond b (reverse kinds) kinds) ≡ value kinds
      by true = either_way kinds
      by false = refl

  pub same_sums : (x : ℕ) (arrive : List Train) → sum_by (λ (t : Train). value t.units) (departing x arrive) ≡ sum_by (λ (t : Train). value t.units) arrive
  same_sums x arrive =
      ap (sum_by (λ (t : Train). value t.units)) (departing_is x arrive)
      ∙ sum_drawn (departing_of arrive (drawn (next x) (length arrive))) (λ (t : Train). value t.units)
      (λ i. value (train_at arrive ((i + drawn (next x) (length arrive)) % length arrive)).units)
      (λ i y. turned_same y (train_at arrive ((i + drawn (next x) (length arrive)) % length arrive)).units) (next x) (length arrive)
      ∙ round (length arrive) (λ k. value (train_at arrive k).units) (drawn (next x) (length arrive))
      ∙ sym (sum_at (λ (t : Train). value t.units) arrive)

pub same_units : (x kind : ℕ) (arrive : List Train) → sum_by (own kind) (departing x arrive) ≡ sum_by (own kind) arrive
same_units x kind arrive = same_sums (many kind) (λ kinds. sum_by-IsPermutation (one_if kind) kinds (reverse kinds) (IsPermutation-reverse kinds)) x arrive
