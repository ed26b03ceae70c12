-- Members of lists.
use Rattle.std.proofs.Common.{◌≡◌, ◌⊎◌, inl, inr, ⊎_elim, ℕ, zero, suc, ◌<◌, Bool, true, false, cond, List, [], ◌∷◌, ◌++◌, length, get_or, map, refl, sym, subst, ap, ◌∙◌, arith, take, drop, ◌≤◌}
use Rattle.std.specs.List.{AllByRecursion, Contains, filter, flat_map, range_with_len}
use Rattle.std.proofs.lemmas.Bool.{cases_Bool, cases_lt}
use Rattle.std.proofs.lemmas.List.Concat.{flat_map-cons}
use Rattle.shunt_lists.specs.defs.Members.{In, AreDistinct}
use Rattle.std.specs.Prelude.{All, AllPairs}
use Rattle.std.proofs.lemmas.List.{length-append, get_or_append_left, get_or_push}
use Rattle.std.proofs.lemmas.List.FromFn.{get_or-range_with_len, length-range_with_len}

pub all_in : {X : Type 0} (P : X → Type 0) (xs : List X) (x : X) → AllByRecursion P xs → In x xs → P x
all_in P [] x all here = absurd here
all_in P (y ∷ ys) x all (inl e) = subst P (sym e) all.0
all_in P (y ∷ ys) x all (inr h) = all_in P ys x all.1 h

pub all_from : {X : Type 0} (P : X → Type 0) (xs : List X) → ((x : X) → In x xs → P x) → AllByRecursion P xs
all_from P [] h = tt
all_from P (x ∷ xs) h = (h x (inl refl), all_from P xs (λ y i. h y (inr i)))

pub in_left : {X : Type 0} (xs ys : List X) (x : X) → In x xs → In x (xs ++ ys)
in_left [] ys x h = absurd h
in_left (z ∷ xs) ys x (inl e) = inl e
in_left (z ∷ xs) ys x (inr h) = inr (in_left xs ys x h)

pub in_right : {X : Type 0} (xs ys : List X) (x : X) → In x ys → In x (xs ++ ys)
in_right [] ys x h = h
in_right (z ∷ xs) ys x h = inr (in_right xs ys x h)

pub in_cases : {X : Type 0} (xs ys : List X) (x : X) → In x (xs ++ ys) → In x xs ⊎ In x ys
in_cases [] ys x h = inr h
in_cases (z ∷ xs) ys x (inl e) = inl (inl e)
in_cases (z ∷ xs) ys x (inr h) = ⊎_elim (λ l. inl (inr l)) (λ r. inr r) (in_cases xs ys x h)

-- members by place and by recursion
at_place : {X : Type 0} (xs : List X) (x : X) (k : ℕ) → k < length xs → get_or xs k x ≡ x → In x xs
at_place [] x k lt e = absurd (omega arith)
at_place (y ∷ xs) x zero lt e = inl (sym e)
at_place (y ∷ xs) x (suc k) lt e = inr (at_place xs x k (omega arith) e)

pub in_from : {X : Type 0} (xs : List X) (x : X) → Contains xs x → In x xs
in_from xs x c = at_place xs x c.0 c.1 c.2

pub in_to : {X : Type 0} (xs : List X) (x : X) → In x xs → Contains xs x
in_to [] x h = absurd h
in_to (y ∷ xs) x (inl e) = (0, omega arith, sym e)
in_to (y ∷ xs) x (inr h) = let c = in_to xs x h in (suc c.0, let lt = c.1 in omega arith, c.2)

pub in_place : {X : Type 0} (xs : List X) (k : ℕ) (d : X) → k < length xs → In (get_or xs k d) xs
in_place [] k d lt = absurd (omega arith)
in_place (y ∷ xs) zero d lt = inl refl
in_place (y ∷ xs) (suc k) d lt = inr (in_place xs k d (omega arith))

pub in_map : {X Y : Type 0} (f : X → Y) (xs : List X) (x : X) → In x xs → In (f x) (map f xs)
in_map f [] x h = absurd h
in_map f (y ∷ xs) x (inl e) = inl (ap f e)
in_map f (y ∷ xs) x (inr h) = inr (in_map f xs x h)

pub of_map : {X Y : Type 0} (f : X → Y) (xs : List X) (y : Y) → In y (map f xs) → (x : X) × In x xs × (y ≡ f x)
of_map f [] y h = absurd h
of_map f (x ∷ xs) y (inl e) = (x, inl refl, e)
of_map f (x ∷ xs) y (inr h) = let r = of_map f xs y h in (r.0, inr r.1, r.2)

-- what a list for each element has
pub in_flat : {X Y : Type 0} (f : X → List Y) (xs : List X) (x : X) (y : Y) → In x xs → In y (f x) → In y (flat_map f xs)
in_flat f [] x y h i = absurd h
in_flat {X} {Y} f (z ∷ xs) x y (inl e) i = subst (λ (l : List Y). In y l) (sym (flat_map-cons f z xs)) (in_left (f z) (flat_map f xs) y (subst (λ (w : X). In y (f w)) e i))
in_flat {X} {Y} f (z ∷ xs) x y (inr h) i = subst (λ (l : List Y). In y l) (sym (flat_map-cons f z xs)) (in_right (f z) (flat_map f xs) y (in_flat f xs x y h i))

pub of_flat : {X Y : Type 0} (f : X → List Y) (xs : List X) (y : Y) → In y (flat_map f xs) → (x : X) × In x xs × In y (f x)
of_flat f [] y h = absurd h
of_flat {X} {Y} f (x ∷ xs) y h =
    ⊎_elim (λ i. (x, inl refl, i)) (λ i. let r = of_flat f xs y i in (r.0, inr r.1, r.2))
    (in_cases (f x) (flat_map f xs) y (subst (λ (l : List Y). In y l) (flat_map-cons f x xs) h))

-- the first is kept, or it isn't
pub filter_yes : {X : Type 0} (p : X → Bool) (x : X) (xs : List X) → p x ≡ true → filter p (x ∷ xs) ≡ x ∷ filter p xs
filter_yes p x xs t = ap (λ b. cond b (x ∷ filter p xs) (filter p xs)) t

pub filter_no : {X : Type 0} (p : X → Bool) (x : X) (xs : List X) → p x ≡ false → filter p (x ∷ xs) ≡ filter p xs
filter_no p x xs t = ap (λ b. cond b (x ∷ filter p xs) (filter p xs)) t

pub filter_from : {X : Type 0} (p : X → Bool) (xs : List X) (x : X) → In x (filter p xs) → In x xs × (p x ≡ true)
filter_from p [] x h = absurd h
filter_from {X} p (y ∷ xs) x h = ⊎_elim (yes (λ i. filter_from p xs x i)) (no (λ i. filter_from p xs x i)) (cases_Bool (p y))
  where
    first : (t : p y ≡ true) → (x ≡ y) ⊎ In x (filter p xs) → (In x (filter p xs) → In x xs × (p x ≡ true)) → In x (y ∷ xs) × (p x ≡ true)
    first t (inl e) later = (inl e, ap p e ∙ t)
    first t (inr i) later = let r = later i in (inr r.0, r.1)

    yes : (In x (filter p xs) → In x xs × (p x ≡ true)) → p y ≡ true → In x (y ∷ xs) × (p x ≡ true)
    yes known t = first t (subst (In x) (filter_yes p y xs t) h) known

    no : (In x (filter p xs) → In x xs × (p x ≡ true)) → p y ≡ false → In x (y ∷ xs) × (p x ≡ true)
    no known t = let r = known (subst (In x) (filter_no p y xs t) h) in (inr r.0, r.1)

pub filter_to : {X : Type 0} (p : X → Bool) (xs : List X) (x : X) → In x xs → p x ≡ true → In x (filter p xs)
filter_to p [] x h t = absurd h
filter_to p (y ∷ xs) x (inl e) t = subst (In x) (sym (filter_yes p y xs (ap p (sym e) ∙ t))) (inl e)
filter_to p (y ∷ xs) x (inr i) t =
    ⊎_elim (λ u. subst (In x) (sym (filter_yes p y xs u)) (inr (filter_to p xs x i t))) (λ u. subst (In x) (sym (filter_no p y xs u)) (filter_to p xs x i t)) (cases_Bool (p y))

-- no member stands twice
abbrev pub Distinct : {X : Type 0} → List X → Type 0
Distinct [] = Unit {0}
Distinct (x ∷ xs) = (In x xs → ⊥) × Distinct xs

pub distinct_filter : {X : Type 0} (p : X → Bool) (xs : List X) → Distinct xs → Distinct (filter p xs)
distinct_filter p [] d = tt
distinct_filter p (x ∷ xs) d =
    ⊎_elim (λ t. subst Distinct (sym (filter_yes p x xs t)) (λ h. d.0 (filter_from p xs x h).0, distinct_filter p xs d.1))
    (λ t. subst Distinct (sym (filter_no p x xs t)) (distinct_filter p xs d.1)) (cases_Bool (p x))

pub of_one : {X : Type 0} (x y : X) → In y (x ∷ []) → y ≡ x
of_one x y (inl e) = e
of_one x y (inr h) = absurd h

pub each_one : {X : Type 0} (P : X → Type 0) (xs : List X) (x : X) → All P xs → In x xs → P x
each_one P xs x all i = let c = in_to xs x i in subst P c.2 (all c.0 x c.1)

pub to_all : {X : Type 0} (P : X → Type 0) (xs : List X) → ((x : X) → In x xs → P x) → All P xs
to_all P xs h k d lt = h (get_or xs k d) (in_place xs k d lt)

pub place : {X : Type 0} (xs : List X) (x : X) → In x xs → (k : ℕ) × (k < length xs) × ((d : X) → get_or xs k d ≡ x)
place [] x there = absurd there
place (y ∷ xs) x there = ⊎_elim (λ same. (0, omega arith, λ d. sym same)) (λ later. let at = place xs x later in (suc at.0, omega (arith, at.1), λ d. at.2 d)) there

pub no_member : {X : Type 0} (xs : List X) → ((x : X) → In x xs → ⊥) → xs ≡ []
no_member [] none = refl
no_member (x ∷ xs) none = absurd (none x (inl refl))

pub pairs_more : {X : Type 0} (R : X → X → Type 0) (xs : List X) (x : X) → AllPairs R xs → ((y : X) → In y xs → R y x) → AllPairs R (xs ++ x ∷ [])
pairs_more R xs x rise last i j d before lt = ⊎_elim
    (λ inside.
    subst (λ z. R z (get_or (xs ++ x ∷ []) j d)) (sym (get_or_append_left xs (x ∷ []) d i (omega (arith, before, inside))))
    (subst (λ z. R (get_or xs i d) z) (sym (get_or_append_left xs (x ∷ []) d j inside)) (rise i j d before inside)))
    (λ ge.
    let at : j ≡ length xs = omega (arith, ge, lt, length-append xs (x ∷ [])) in
    let is : get_or (xs ++ x ∷ []) j d ≡ x = get_or_push xs x d j (sym at) in
    subst (λ z. R z (get_or (xs ++ x ∷ []) j d)) (sym (get_or_append_left xs (x ∷ []) d i (omega (arith, before, at))))
    (subst (λ z. R (get_or xs i d) z) (sym is) (last (get_or xs i d) (in_place xs i d (omega (arith, before, at))))))
    (cases_lt j (length xs))

pub place_of : {X : Type 0} (xs : List X) (x d : X) → In x xs → (k : ℕ) × (k < length xs) × (get_or xs k d ≡ x)
place_of [] x d h = absurd h
place_of (y ∷ xs) x d (inl e) = (0, omega arith, sym e)
place_of (y ∷ xs) x d (inr h) = let r = place_of xs x d h in (suc r.0, let lt = r.1 in omega arith, r.2)

pub range_distinct : (k n : ℕ) → AreDistinct (range_with_len k n)
range_distinct k n i j d before lt same = omega (
  arith,
  before,
  same,
  get_or-range_with_len k n i d (omega (arith, before, lt, size)),
  get_or-range_with_len k n j d (omega (arith, lt, size)),
)
  where
    size : length (range_with_len k n) ≡ n
    size = length-range_with_len k n

pub in_take : {X : Type 0} (n : ℕ) (xs : List X) (x : X) → In x (take n xs) → (k : ℕ) × (k < n) × (k < length xs) × (get_or xs k x ≡ x)
in_take zero xs x h = absurd h
in_take (suc n) [] x h = absurd h
in_take (suc n) (y ∷ xs) x (inl e) = (0, omega arith, omega arith, sym e)
in_take (suc n) (y ∷ xs) x (inr h) = let r = in_take n xs x h in (suc r.0, let p = r.1 in omega arith, let p = r.2 in omega arith, r.3)

pub in_drop : {X : Type 0} (n : ℕ) (xs : List X) (x : X) → In x (drop n xs) → (k : ℕ) × (n ≤ k) × (k < length xs) × (get_or xs k x ≡ x)
in_drop zero [] x h = absurd h
in_drop zero (y ∷ xs) x (inl e) = (0, omega arith, omega arith, sym e)
in_drop zero (y ∷ xs) x (inr h) = let r = in_drop zero xs x h in (suc r.0, omega arith, let p = r.2 in omega arith, r.3)
in_drop (suc n) [] x h = absurd h
in_drop (suc n) (y ∷ xs) x h = let r = in_drop n xs x h in (suc r.0, let p = r.1 in omega arith, let p = r.2 in omega arith, r.3)

pub split_at_member : {X : Type 0} (ys : List X) (x : X) → In x ys → (a : List X) × (b : List X) × (ys ≡ a ++ x ∷ b)
split_at_member [] x i = absurd i
split_at_member {X} (y ∷ ys) x (inl e) = ([], ys, ap (λ (z : X). z ∷ ys) (sym e))
split_at_member {X} (y ∷ ys) x (inr i) = let k = split_at_member ys x i in (y ∷ k.0, k.1, ap (λ (zs : List X). y ∷ zs) k.2)
