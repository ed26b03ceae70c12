-- Things that are drawn one after the other.
use Rattle.std.proofs.Common.{◌≡◌, ℕ, zero, suc, ◌+◌, ◌<◌, ◌≤◌, List, [], ◌∷◌, ◌++◌, length, map, get_or, take, refl, sym, ap, ◌∙◌, add-one, arith}
use Rattle.std.specs.Prelude.{All}
use Rattle.std.specs.List.{range_with_len}
use Rattle.std.proofs.lemmas.List.{take_more, length-take-le}
use Rattle.std.proofs.lemmas.List.Elements.{All-nil, All-cons, All-head, All-tail}
use Rattle.std.proofs.lemmas.List.FromFn.{length-range_with_len, get_or-range_with_len}
use Rattle.shunt_make.specs.defs.Draws.{next, after, drawn_for}
use Rattle.shunt_lists.proofs.Numbers.{range_more as range_suc}

-- one draw more, as a loop counts
pub after_more : (x n : ℕ) → after x (n + 1) ≡ next (after x n)
after_more x n = ap (after x) (add-one n)

-- the first draw of some
after_first : (x n : ℕ) → after (next x) n ≡ next (after x n)
after_first x zero = refl
after_first x (suc n) = ap next (after_first x n)

-- some draws, and then others
pub after_both : (x n m : ℕ) → after (after x n) m ≡ after x (n + m)
after_both x n zero = let e : n ≡ n + 0 = omega arith in ap (after x) e
after_both x n (suc m) = let e : suc (n + m) ≡ n + suc m = omega arith in ap next (after_both x n m) ∙ ap (after x) e

drawn_push : {A X : Type 0} (make : A → ℕ → X) (x : ℕ) (these : List A) (a : A) → drawn_for make x (these ++ a ∷ []) ≡ drawn_for make x these
    ++ make a (next (after x (length these))) ∷ []
drawn_push make x [] a = refl
drawn_push {A} {X} make x (b ∷ rest) a =
    ap (λ (l : List X). make b (next x) ∷ l) (drawn_push make (next x) rest a ∙ ap (λ (y : ℕ). drawn_for make (next x) rest ++ make a (next y) ∷ []) (after_first x (length rest)))

-- one thing more of a list, as a loop goes over it
pub drawn_more : {A X : Type 0} (make : A → ℕ → X) (x : ℕ) (these : List A) (i : ℕ) (d : A) → i < length these
    → drawn_for make x (take (i + 1) these) ≡ drawn_for make x (take i these) ++ make (get_or these i d) (next (after x i)) ∷ []
drawn_more make x these i d lt =
    ap (drawn_for make x) (take_more these i d lt)
    ∙ drawn_push make x (take i these) (get_or these i d)
    ∙ ap (λ (n : ℕ). drawn_for make x (take i these) ++ make (get_or these i d) (next (after x n)) ∷ []) (length-take-le i these (omega arith))

-- one number more
pub range_more : (a n : ℕ) → range_with_len a (n + 1) ≡ range_with_len a n ++ (a + n) ∷ []
range_more a n = ap (range_with_len a) (add-one n) ∙ range_suc a n

-- one thing more of those that are numbered, as a loop counts
pub numbered_more : {X : Type 0} (make : ℕ → ℕ → X) (x a n : ℕ) → drawn_for make x (range_with_len a (n + 1)) ≡ drawn_for make x (range_with_len a n)
    ++ make (a + n) (next (after x n)) ∷ []
numbered_more make x a n =
    ap (drawn_for make x) (range_more a n)
    ∙ drawn_push make x (range_with_len a n) (a + n)
    ∙ ap (λ (m : ℕ). drawn_for make x (range_with_len a n) ++ make (a + n) (next (after x m)) ∷ []) (length-range_with_len a n)

-- ---- what is true of each of them

pub drawn_length : {A X : Type 0} (make : A → ℕ → X) (x : ℕ) (these : List A) → length (drawn_for make x these) ≡ length these
drawn_length make x [] = refl
drawn_length make x (a ∷ rest) = ap suc (drawn_length make (next x) rest)

pub drawn_all : {A X : Type 0} (make : A → ℕ → X) (Q : A → Type 0) (P : X → Type 0) → ((a : A) (x : ℕ) → Q a → P (make a x)) → (x : ℕ) (these : List A) → All Q these
    → All P (drawn_for make x these)
drawn_all make Q P h x [] all = All-nil P
drawn_all make Q P h x (a ∷ rest) all = All-cons P (make a (next x)) (drawn_for make (next x) rest) (h a (next x) (All-head Q a rest all))
    (drawn_all make Q P h (next x) rest (All-tail Q a rest all))

-- what is told of each by what it is made of, whatever its draw
pub drawn_map : {A X Y : Type 0} (make : A → ℕ → X) (f : X → Y) (g : A → Y) → ((a : A) (x : ℕ) → f (make a x) ≡ g a) → (x : ℕ) (these : List A)
    → map f (drawn_for make x these) ≡ map g these
drawn_map make f g h x [] = refl
drawn_map {A} {X} {Y} make f g h x (a ∷ rest) = ap (λ (l : List Y). f (make a (next x)) ∷ l) (drawn_map make f g h (next x) rest) ∙ ap (λ (y : Y). y ∷ map g rest) (h a (next x))

pub range_in : (a n : ℕ) → All (λ k. (a ≤ k) × (k < a + n)) (range_with_len a n)
range_in a n k d lt =
    let below : k < n = omega (arith, length-range_with_len a n) in
    let is = get_or-range_with_len a n k d below in
    (omega (arith, is), omega (arith, is))

-- ---- the turn of a loop

pub state_turn : (x i y z : ℕ) → y ≡ after x i → z ≡ next y → z ≡ after x (i + 1)
state_turn x i y z was now = now ∙ ap next was ∙ sym (after_more x i)

pub numbered_turn : {X : Type 0} (make : ℕ → ℕ → X) (x a i k y : ℕ) (xs ys : List X) (t : X) → xs ≡ drawn_for make x (range_with_len a i) → y ≡ after x i → k ≡ a + i
    → t ≡ make k (next y) → ys ≡ xs ++ t ∷ [] → ys ≡ drawn_for make x (range_with_len a (i + 1))
numbered_turn {X} make x a i k y xs ys t made state number one pushed =
    let is : t ≡ make (a + i) (next (after x i)) = one ∙ ap (λ (m : ℕ). make m (next y)) number ∙ ap (λ (z : ℕ). make (a + i) (next z)) state in
    pushed
    ∙ ap (λ (l : List X). l ++ t ∷ []) made
    ∙ ap (λ (u : X). drawn_for make x (range_with_len a i) ++ u ∷ []) is
    ∙ sym (numbered_more make x a i)

pub drawn_turn : {A X : Type 0} (make : A → ℕ → X) (x i y : ℕ) (these : List A) (d : A) (xs ys : List X) (t : X) → i < length these → xs ≡ drawn_for make x (take i these)
    → y ≡ after x i → t ≡ make (get_or these i d) (next y) → ys ≡ xs ++ t ∷ [] → ys ≡ drawn_for make x (take (i + 1) these)
drawn_turn {A} {X} make x i y these d xs ys t lt made state one pushed =
    let is : t ≡ make (get_or these i d) (next (after x i)) = one ∙ ap (λ (z : ℕ). make (get_or these i d) (next z)) state in
    pushed
    ∙ ap (λ (l : List X). l ++ t ∷ []) made
    ∙ ap (λ (u : X). drawn_for make x (take i these) ++ u ∷ []) is
    ∙ sym (drawn_more make x these i d lt)
