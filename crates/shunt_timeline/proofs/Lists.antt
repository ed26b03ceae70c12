-- Lists that ascend, and sums over lists.
use Rattle.std.proofs.Common.{◌≡◌, inl, inr, ⊎_elim, ℕ, zero, suc, ◌+◌, ◌<◌, ◌≤◌, List, [], ◌∷◌, ◌++◌, length, get_or, map, refl, ap, arith, sum_by}
use Rattle.std.specs.List.{AllByRecursion}
use Rattle.std.proofs.lemmas.List.Sums.{sum_by-cons}
use Rattle.shunt_lists.proofs.Members.{all_in, all_from, in_place, in_left, in_right, in_cases}
use Rattle.shunt_lists.specs.defs.Members.{In, Ascends}

pub sum_plus : {X : Type 0} (f g h : X → ℕ) (xs : List X) → ((x : X) → In x xs → h x ≡ f x + g x) → sum_by h xs ≡ sum_by f xs + sum_by g xs
sum_plus f g h [] e = refl
sum_plus f g h (x ∷ xs) e = let first = e x (inl refl) in let rest = sum_plus f g h xs (λ y i. e y (inr i)) in omega
    (arith, sum_by-cons f x xs, sum_by-cons g x xs, sum_by-cons h x xs)

pub sum_zero : {X : Type 0} (f : X → ℕ) (xs : List X) → ((x : X) → In x xs → f x ≡ 0) → sum_by f xs ≡ 0
sum_zero f [] e = refl
sum_zero f (x ∷ xs) e = let first = e x (inl refl) in let rest = sum_zero f xs (λ y i. e y (inr i)) in omega (arith, sum_by-cons f x xs)

pub sum_map : {X Y : Type 0} (g : Y → ℕ) (f : X → Y) (xs : List X) → sum_by g (map f xs) ≡ sum_by (λ x. g (f x)) xs
sum_map g f [] = refl
sum_map g f (x ∷ xs) = let rest = sum_map g f xs in omega (arith, sum_by-cons g (f x) (map f xs), sum_by-cons (λ y. g (f y)) x xs)

-- something that adds to a sum
pub sum_some : {X : Type 0} (f : X → ℕ) (xs : List X) → 0 < sum_by f xs → (x : X) × In x xs × (0 < f x)
sum_some f [] lt = absurd (omega arith)
sum_some {X} f (x ∷ xs) lt = elim (f x) as (λ n. f x ≡ n → (y : X) × In y (x ∷ xs) × (0 < f y)) [
  | zero ↦ λ e. let r = sum_some f xs (omega (arith, sum_by-cons f x xs)) in (r.0, inr r.1, r.2)
  | suc n ↦ λ e. (x, inl refl, omega arith)
] refl

pub sum_least : {X : Type 0} (f : X → ℕ) (xs : List X) (x : X) → In x xs → f x ≤ sum_by f xs
sum_least f [] x h = absurd h
sum_least f (y ∷ xs) x (inl e) = omega (arith, sum_by-cons f y xs, ap f e)
sum_least f (y ∷ xs) x (inr h) = let r = sum_least f xs x h in omega (arith, sum_by-cons f y xs)

-- ascending lists
pub ascends_front : {X : Type 0} (f : X → ℕ) (xs ys : List X) → Ascends f (xs ++ ys) → Ascends f xs
ascends_front f [] ys a = tt
ascends_front f (x ∷ xs) ys a = (all_from (λ y. f x < f y) xs (λ y i. all_in (λ z. f x < f z) (xs ++ ys) y a.0 (in_left xs ys y i)), ascends_front f xs ys a.1)

pub ascends_back : {X : Type 0} (f : X → ℕ) (xs ys : List X) → Ascends f (xs ++ ys) → Ascends f ys
ascends_back f [] ys a = a
ascends_back f (x ∷ xs) ys a = ascends_back f xs ys a.1

pub ascends_apart : {X : Type 0} (f : X → ℕ) (xs ys : List X) (x y : X) → Ascends f (xs ++ ys) → In x xs → In y ys → f x < f y
ascends_apart f [] ys x y a h i = absurd h
ascends_apart f (z ∷ xs) ys x y a (inl e) i = let lt : f z < f y = all_in (λ w. f z < f w) (xs ++ ys) y a.0 (in_right xs ys y i) in omega (arith, ap f e)
ascends_apart f (z ∷ xs) ys x y a (inr h) i = ascends_apart f xs ys x y a.1 h i

pub ascends_joined : {X : Type 0} (f : X → ℕ) (xs ys : List X) → Ascends f xs → Ascends f ys → ((x y : X) → In x xs → In y ys → f x < f y) → Ascends f (xs ++ ys)
ascends_joined f [] ys a b h = b
ascends_joined f (x ∷ xs) ys a b h = (
  all_from (λ y. f x < f y) (xs ++ ys) (λ y i. ⊎_elim (λ l. all_in (λ z. f x < f z) xs y a.0 l) (λ r. h x y (inl refl) r) (in_cases xs ys y i)),
  ascends_joined f xs ys a.1 b (λ u v i j. h u v (inr i) j),
)

pub ascends_map : {X : Type 0} (f : X → ℕ) (g : X → X) (xs : List X) → ((x : X) → f (g x) ≡ f x) → Ascends f xs → Ascends f (map g xs)
ascends_map {X} f g xs same a = go xs a
  where
    below : (x : X) (ys : List X) → AllByRecursion (λ y. f x < f y) ys → AllByRecursion (λ y. f (g x) < f y) (map g ys)
    below x [] h = tt
    below x (y ∷ ys) h = (let lt = h.0 in let p = same x in let q = same y in omega arith, below x ys h.1)

    go : (ys : List X) → Ascends f ys → Ascends f (map g ys)
    go [] b = tt
    go (y ∷ ys) b = (below y ys b.0, go ys b.1)

pub ascends_at : {X : Type 0} (f : X → ℕ) (xs : List X) (i j : ℕ) (d : X) → Ascends f xs → i ≤ j → j < length xs → f (get_or xs i d) ≤ f (get_or xs j d)
ascends_at f [] i j d a le lt = absurd (omega arith)
ascends_at f (x ∷ xs) zero zero d a le lt = omega arith
ascends_at f (x ∷ xs) zero (suc j) d a le lt = let gt : f x < f (get_or xs j d) = all_in (λ y. f x < f y) xs (get_or xs j d) a.0 (in_place xs j d (omega arith)) in omega arith
ascends_at f (x ∷ xs) (suc i) zero d a le lt = absurd (omega arith)
ascends_at f (x ∷ xs) (suc i) (suc j) d a le lt = ascends_at f xs i j d a.1 (omega arith) (omega arith)
