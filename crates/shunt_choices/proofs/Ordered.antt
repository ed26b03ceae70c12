-- Lists whose elements come in an order: mapped, filtered, and one list for each element.
use Rattle.std.specs.Prelude.{AllPairs, filter}
use Rattle.std.specs.List.{flat_map, range_with_len}
use Rattle.std.proofs.Common.{◌⊎◌, ⊎_elim, inl, inr, ℕ, zero, suc, ◌+◌, ◌<◌, Bool, List, [], ◌∷◌, ◌++◌, map, refl, sym, subst, arith}
use Rattle.std.proofs.lemmas.Bool.{cases_Bool}
use Rattle.std.proofs.lemmas.List.Kept.{AllPairs-cons}
use Rattle.shunt_lists.proofs.Members.{in_cases, in_place, of_map, filter_yes, filter_no, filter_from, of_flat}
use Rattle.shunt_lists.proofs.Ranges.{range_in}
use Rattle.shunt_lists.specs.defs.Members.{In}

-- each element comes before all after it
abbrev pub Follows : {X : Type 0} → (X → X → Type 0) → List X → Type 0
Follows R [] = Unit {0}
Follows {X} R (x ∷ xs) = ((y : X) → In y xs → R x y) × Follows R xs

pub all_pairs : {X : Type 0} (R : X → X → Type 0) (xs : List X) → Follows R xs → AllPairs R xs
all_pairs R [] f = λ i j d before within. absurd (omega arith)
all_pairs R (x ∷ xs) f = AllPairs-cons R x xs (λ k d lt. f.0 _ (in_place xs k d lt)) (all_pairs R xs f.1)

pub follows_append : {X : Type 0} (R : X → X → Type 0) (xs ys : List X) → Follows R xs → Follows R ys → ((x y : X) → In x xs → In y ys → R x y) → Follows R (xs ++ ys)
follows_append R [] ys f g between = g
follows_append R (x ∷ xs) ys f g between =
    (λ y i. ⊎_elim (λ l. f.0 y l) (λ r. between x y (inl refl) r) (in_cases xs ys y i), follows_append R xs ys f.1 g (λ a b i j. between a b (inr i) j))

pub follows_map : {X Y : Type 0} (S : X → X → Type 0) (R : Y → Y → Type 0) (f : X → Y) (xs : List X) → ((x y : X) → In x xs → In y xs → S x y → R (f x) (f y)) → Follows S xs
    → Follows R (map f xs)
follows_map S R f [] keeps s = tt
follows_map S R f (x ∷ xs) keeps s =
    (λ y i. let m = of_map f xs y i in subst (R (f x)) (sym m.2) (keeps x m.0 (inl refl) (inr m.1) (s.0 m.0 m.1)), follows_map S R f xs (λ a b i j. keeps a b (inr i) (inr j)) s.1)

pub follows_filter : {X : Type 0} (R : X → X → Type 0) (p : X → Bool) (xs : List X) → Follows R xs → Follows R (filter p xs)
follows_filter R p [] f = tt
follows_filter R p (x ∷ xs) f =
    ⊎_elim
    (λ t. subst (Follows R) (sym (filter_yes p x xs t)) (λ y i. f.0 y (filter_from p xs y i).0, follows_filter R p xs f.1))
    (λ t. subst (Follows R) (sym (filter_no p x xs t)) (follows_filter R p xs f.1))
    (cases_Bool (p x))

-- ---- a list for each element

pub follows_flat : {X Y : Type 0} (S : X → X → Type 0) (R : Y → Y → Type 0) (f : X → List Y) (xs : List X) → Follows S xs → ((x : X) → In x xs → Follows R (f x))
    → ((x y : X) → In x xs → In y xs → S x y → (a b : Y) → In a (f x) → In b (f y) → R a b) → Follows R (flat_map f xs)
follows_flat S R f [] s each between = tt
follows_flat S R f (x ∷ xs) s each between =
    follows_append R (f x) (flat_map f xs) (each x (inl refl))
    (follows_flat S R f xs s.1 (λ y i. each y (inr i)) (λ y z i j. between y z (inr i) (inr j)))
    (λ a b i j. let m = of_flat f xs b j in between x m.0 (inl refl) (inr m.1) (s.0 m.0 m.1) a b i m.2)

-- ---- numbers in a row

pub follows_range : (a n : ℕ) → Follows (λ k l. k < l) (range_with_len a n)
follows_range a zero = tt
follows_range a (suc n) = (λ k i. let r = range_in (a + 1) n k i in omega (arith, r.0), follows_range (a + 1) n)
