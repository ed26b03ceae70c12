-- All lists of few members of a list, and the greatest of a list.
use Rattle.std.specs.Prelude.{map, ◌≤ℤ◌}
use Rattle.std.specs.List.{flat_map, range_with_len}
use Rattle.std.proofs.Common.{◌≡◌, ⊎_elim, inl, inr, ℕ, zero, suc, ◌<◌, ◌≤◌, List, [], ◌∷◌, length, get_or, ℤ, refl, sym, subst, ap, arith}
use Rattle.std.proofs.lemmas.Int.{ints, by_lt_z}
use Rattle.std.proofs.lemmas.List.FromFn.{length-range_with_len, get_or-range_with_len}
use Rattle.shunt_lists.specs.defs.Members.{In}
use Rattle.shunt_lists.proofs.Members.{in_place, in_map, of_map, in_flat, of_flat, place}

-- ---- numbers below one

pub in_range : (n k : ℕ) → k < n → In k (range_with_len 0 n)
in_range n k lt =
    let there = in_place (range_with_len 0 n) k 0 (omega (arith, length-range_with_len 0 n, lt)) in
    let is : get_or (range_with_len 0 n) k 0 ≡ k = omega (arith, get_or-range_with_len 0 n k 0 lt) in
    subst (λ (j : ℕ). In j (range_with_len 0 n)) is there

pub of_range : (n k : ℕ) → In k (range_with_len 0 n) → k < n
of_range n k there =
    let at = place (range_with_len 0 n) k there in
    let lt : at.0 < n = omega (arith, at.1, length-range_with_len 0 n) in
    omega (arith, lt, at.2 0, get_or-range_with_len 0 n at.0 0 lt)

-- ---- lists of at most that many members

abbrev pub lists_of : {X : Type 0} → ℕ → List X → List (List X)
lists_of zero xs = [] ∷ []
lists_of (suc n) xs = [] ∷ flat_map (λ x. map (λ l. x ∷ l) (lists_of n xs)) xs

pub in_lists : {X : Type 0} (n : ℕ) (xs l : List X) → length l ≤ n → ((x : X) → In x l → In x xs) → In l (lists_of n xs)
in_lists zero xs [] le h = inl refl
in_lists zero xs (x ∷ l) le h = absurd (omega (arith, le))
in_lists (suc n) xs [] le h = inl refl
in_lists {X} (suc n) xs (x ∷ l) le h =
    inr (in_flat (λ (y : X). map (λ (m : List X). y ∷ m) (lists_of n xs)) xs x (x ∷ l) (h x (inl refl))
    (in_map (λ (m : List X). x ∷ m) (lists_of n xs) l (in_lists n xs l (omega (arith, le)) (λ y i. h y (inr i)))))

pub of_lists : {X : Type 0} (n : ℕ) (xs l : List X) → In l (lists_of n xs) → (x : X) → In x l → In x xs
of_lists {X} zero xs l (inl e) x there = absurd (subst (λ (m : List X). In x m) e there)
of_lists zero xs l (inr none) x there = absurd none
of_lists {X} (suc n) xs l (inl e) x there = absurd (subst (λ (m : List X). In x m) e there)
of_lists {X} (suc n) xs l (inr later) x there =
    let y = of_flat (λ (y : X). map (λ (m : List X). y ∷ m) (lists_of n xs)) xs l later in
    let m = of_map (λ (m : List X). y.0 ∷ m) (lists_of n xs) l y.2 in
    either y.0 y.1 m.0 (λ i. of_lists n xs m.0 m.1 x i) (subst (λ (k : List X). In x k) m.2 there)
  where
    either : (y : X) → In y xs → (m : List X) → (In x m → In x xs) → In x (y ∷ m) → In x xs
    either y there m known (inl e) = subst (λ (z : X). In z xs) (sym e) there
    either y there m known (inr i) = known i

-- ---- the greatest

pub record HasMost {X : Type 0} (f : X → ℤ) (xs : List X) : Type 0 where
  pub one : X
  pub there : In one xs
  pub most : (y : X) → In y xs → f y ≤ℤ f one

pub greatest : {X : Type 0} (f : X → ℤ) (x : X) (xs : List X) → HasMost f (x ∷ xs)
greatest f x [] = record { one = x; there = inl refl; most = λ y there. ⊎_elim (λ e. omega (arith, ints, ap f e)) (λ none. absurd none) there }
greatest {X} f x (z ∷ xs) = add (greatest f z xs)
  where
    add : HasMost f (z ∷ xs) → HasMost f (x ∷ z ∷ xs)
    add g = by_lt_z (f g.one) (f x)
        (λ lt. record { one = x; there = inl refl; most = λ y there. ⊎_elim (λ e. omega (arith, ints, ap f e)) (λ later. omega (arith, ints, lt, g.most y later)) there })
        (λ le. record { one = g.one; there = inr g.there; most = λ y there. ⊎_elim (λ e. omega (arith, ints, ap f e, le)) (λ later. g.most y later) there })
