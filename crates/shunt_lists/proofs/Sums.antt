-- Sums over lists without doubles.
use Rattle.std.proofs.Common.{◌≡◌, ◌⊎◌, inl, inr, ⊎_elim, ◌↔◌, ℕ, ◌+◌, ◌≤◌, Bool, true, false, cond, List, [], ◌∷◌, ◌++◌, refl, sym, subst, ap, ◌∙◌, arith, sum_by, length, ◌<◌, ◌*◌}
use Rattle.std.proofs.lemmas.Bool.{false≢true, cases_Bool}
use Rattle.std.proofs.lemmas.List.Sums.{sum_by-append, sum_by-cons, count_by-le-length}
use Rattle.std.specs.List.{filter, count_by}
use Rattle.shunt_lists.specs.defs.Members.{In}
use Rattle.shunt_lists.proofs.Members.{in_left, in_right, in_cases, filter_yes, filter_no, Distinct}
use Rattle.shunt_lists.proofs.Tests.{flag_small as one, flag_zero as zero_of}

-- where a member stands
record Parts {X : Type 0} (x : X) (xs : List X) : Type 0 where
  front : List X
  back : List X
  is : xs ≡ front ++ x ∷ back

parts : {X : Type 0} (x : X) (xs : List X) → In x xs → Parts x xs
parts x [] h = absurd h
parts {X} x (y ∷ xs) (inl e) = record { front = []; back = xs; is = ap (λ (z : X). z ∷ xs) (sym e) }
parts {X} x (y ∷ xs) (inr h) = let p = parts x xs h in record { front = y ∷ p.front; back = p.back; is = ap (λ (l : List X). y ∷ l) p.is }

sum_middle : {X : Type 0} (f : X → ℕ) (front back : List X) (x : X) → sum_by f (front ++ x ∷ back) ≡ f x + sum_by f (front ++ back)
sum_middle f front back x =
    omega (arith, sum_by-append f front (x ∷ back), sum_by-append f front back, sum_by-cons f x back)

in_middle : {X : Type 0} (front back : List X) (x y : X) → In y (front ++ x ∷ back) → (y ≡ x) ⊎ In y (front ++ back)
in_middle {X} front back x y h = ⊎_elim (λ l. inr (in_left front back y l)) (λ r. last r) (in_cases front (x ∷ back) y h)
  where
    last : In y (x ∷ back) → (y ≡ x) ⊎ In y (front ++ back)
    last (inl e) = inl e
    last (inr i) = inr (in_right front back y i)

to_middle : {X : Type 0} (front back : List X) (x y : X) → In y (front ++ back) → In y (front ++ x ∷ back)
to_middle front back x y h = ⊎_elim (λ l. in_left front (x ∷ back) y l) (λ r. in_right front (x ∷ back) y (inr r)) (in_cases front back y h)

distinct_middle : {X : Type 0} (front back : List X) (x : X) → Distinct (front ++ x ∷ back) → (In x (front ++ back) → ⊥) × Distinct (front ++ back)
distinct_middle [] back x d = d
distinct_middle {X} (y ∷ front) back x d =
    let rest = distinct_middle front back x d.1 in (
      λ h. ⊎_elim (λ e. d.0 (subst (λ (z : X). In z (front ++ x ∷ back)) e (in_right front (x ∷ back) x (inl refl)))) (λ i. rest.0 i) h,
      (λ h. d.0 (to_middle front back x y h), rest.1),
    )

-- xs has the members of ys that pass
abbrev pub SameMembers : {X : Type 0} → (X → Bool) → List X → List X → Type 0
SameMembers {X} p ys xs = (x : X) → In x xs ↔ In x ys × (p x ≡ true)

abbrev pub some_of : {X : Type 0} → (X → ℕ) → (X → Bool) → X → ℕ
some_of f p x = cond (p x) (f x) 0

taken : {X : Type 0} (f : X → ℕ) (p : X → Bool) (y : X) (ys xs : List X) → Distinct (y ∷ ys) → Distinct xs → SameMembers p (y ∷ ys) xs → p y ≡ true
    → ((zs : List X) → Distinct zs → SameMembers p ys zs → sum_by f zs ≡ sum_by (some_of f p) ys)
    → sum_by f xs ≡ sum_by (some_of f p) (y ∷ ys)
taken {X} f p y ys xs d e same t known =
    let q = parts y xs ((same y).1 (inl refl, t)) in
    let k = distinct_middle q.front q.back y (subst Distinct q.is e) in
    let rest = known (q.front ++ q.back) k.1 (λ s. (
      λ h. let was = (same s).0 (subst (In s) (sym q.is) (to_middle q.front q.back y s h)) in
          (⊎_elim (λ g. absurd (k.0 (subst (λ (z : X). In z (q.front ++ q.back)) g h))) (λ i. i) was.0, was.1),
      λ h. ⊎_elim (λ g. absurd (d.0 (subst (λ (z : X). In z ys) g h.0))) (λ i. i) (in_middle q.front q.back y s (subst (In s) q.is ((same s).1 (inr h.0, h.1)))),
    )) in
    let all : sum_by f xs ≡ f y + sum_by f (q.front ++ q.back) = ap (sum_by f) q.is ∙ sum_middle f q.front q.back y in
    let one : some_of f p y ≡ f y = ap (λ b. cond b (f y) 0) t in
    omega (arith, sum_by-cons (some_of f p) y ys)

left : {X : Type 0} (f : X → ℕ) (p : X → Bool) (y : X) (ys xs : List X) → Distinct xs → SameMembers p (y ∷ ys) xs → p y ≡ false
    → ((zs : List X) → Distinct zs → SameMembers p ys zs → sum_by f zs ≡ sum_by (some_of f p) ys)
    → sum_by f xs ≡ sum_by (some_of f p) (y ∷ ys)
left f p y ys xs e same t known =
    let rest = known xs e (λ s. (
      λ h. (⊎_elim (λ g. absurd (false≢true (sym t ∙ ap p (sym g) ∙ ((same s).0 h).1))) (λ i. i) ((same s).0 h).0, ((same s).0 h).1),
      λ h. (same s).1 (inr h.0, h.1),
    )) in
    let none : some_of f p y ≡ 0 = ap (λ b. cond b (f y) 0) t in
    omega (arith, sum_by-cons (some_of f p) y ys)

-- the sum over a list is the sum over those members of a larger one that are in it
pub sum_same : {X : Type 0} (f : X → ℕ) (p : X → Bool) (ys xs : List X) → Distinct ys → Distinct xs → SameMembers p ys xs → sum_by f xs ≡ sum_by (some_of f p) ys
sum_same f p [] [] d e same = refl
sum_same f p [] (x ∷ xs) d e same = absurd ((same x).0 (inl refl)).0
sum_same f p (y ∷ ys) xs d e same =
    ⊎_elim (λ t. taken f p y ys xs d e same t (λ zs k m. sum_same f p ys zs d.1 k m)) (λ t. left f p y ys xs e same t (λ zs k m. sum_same f p ys zs d.1 k m)) (cases_Bool (p y))

-- what passes stands in another list, so it adds up to no more than that
pub sum_within : {X : Type 0} (f : X → ℕ) (p : X → Bool) (ys xs : List X) → Distinct ys → ((x : X) → In x ys → p x ≡ true → In x xs) → sum_by (some_of f p) ys ≤ sum_by f xs
sum_within f p [] xs d h = omega arith
sum_within {X} f p (y ∷ ys) xs d h = ⊎_elim (yes (λ zs k. sum_within f p ys zs d.1 k)) (no (sum_within f p ys xs d.1 (λ x i u. h x (inr i) u))) (cases_Bool (p y))
  where
    yes : ((zs : List X) → ((x : X) → In x ys → p x ≡ true → In x zs) → sum_by (some_of f p) ys ≤ sum_by f zs) → p y ≡ true → sum_by (some_of f p) (y ∷ ys) ≤ sum_by f xs
    yes known t =
        let q = parts y xs (h y (inl refl) t) in
        let rest = known (q.front ++ q.back) (λ x i u. ⊎_elim (λ e. absurd (d.0 (subst (λ (z : X). In z ys) e i))) (λ k. k)
        (in_middle q.front q.back y x (subst (In x) q.is (h x (inr i) u)))) in
        let all : sum_by f xs ≡ f y + sum_by f (q.front ++ q.back) = ap (sum_by f) q.is ∙ sum_middle f q.front q.back y in
        let first : some_of f p y ≡ f y = ap (λ b. cond b (f y) 0) t in
        omega (arith, sum_by-cons (some_of f p) y ys)

    no : sum_by (some_of f p) ys ≤ sum_by f xs → p y ≡ false → sum_by (some_of f p) (y ∷ ys) ≤ sum_by f xs
    no rest t =
        let none : some_of f p y ≡ 0 = ap (λ b. cond b (f y) 0) t in
        omega (arith, sum_by-cons (some_of f p) y ys)

pub sum_filter : {X : Type 0} (f : X → ℕ) (p : X → Bool) (xs : List X) → sum_by f (filter p xs) ≡ sum_by (some_of f p) xs
sum_filter f p [] = refl
sum_filter f p (x ∷ xs) =
    ⊎_elim (λ t. let e : some_of f p x ≡ f x = ap (λ b. cond b (f x) 0) t in let g = ap (sum_by f) (filter_yes p x xs t) in let r = sum_filter f p xs in omega
    (arith, sum_by-cons f x (filter p xs), sum_by-cons (some_of f p) x xs))
    (λ t. let e : some_of f p x ≡ 0 = ap (λ b. cond b (f x) 0) t in let g = ap (sum_by f) (filter_no p x xs t) in let r = sum_filter f p xs in omega
    (arith, sum_by-cons (some_of f p) x xs))
    (cases_Bool (p x))

pub filter_least : {X : Type 0} (f : X → ℕ) (p : X → Bool) (xs : List X) → sum_by f (filter p xs) ≤ sum_by f xs
filter_least f p [] = omega arith
filter_least f p (x ∷ xs) =
    ⊎_elim (λ t. let g = ap (sum_by f) (filter_yes p x xs t) in let r = filter_least f p xs in omega (arith, sum_by-cons f x (filter p xs), sum_by-cons f x xs))
    (λ t. let g = ap (sum_by f) (filter_no p x xs t) in let r = filter_least f p xs in omega (arith, sum_by-cons f x xs))
    (cases_Bool (p x))

pub sum_by-same : {X : Type 0} (f g : X → ℕ) (xs : List X) → ((x : X) → f x ≡ g x) → sum_by f xs ≡ sum_by g xs
sum_by-same f g [] h = refl
sum_by-same f g (x ∷ xs) h = omega (arith, sum_by-cons f x xs, sum_by-cons g x xs, h x, sum_by-same f g xs h)

pub sum_by-members : {X : Type 0} (xs : List X) (f g : X → ℕ) → ((x : X) → In x xs → f x ≡ g x) → sum_by f xs ≡ sum_by g xs
sum_by-members [] f g h = refl
sum_by-members (x ∷ xs) f g h = omega (arith, sum_by-cons f x xs, sum_by-cons g x xs, h x (inl refl), sum_by-members xs f g (λ y there. h y (inr there)))

-- one isn't counted
pub count_below : {X : Type 0} (p : X → Bool) (xs : List X) (x : X) → In x xs → p x ≡ false → count_by p xs < length xs
count_below p [] x h e = absurd h
count_below p (y ∷ xs) x (inl s) e =
    let r = count_by-le-length p xs in
    let none = zero_of (p y) (ap p (sym s) ∙ e) in
    omega (arith, sum_by-cons (λ z. cond (p z) 1 0) y xs)
count_below p (y ∷ xs) x (inr h) e = let r = count_below p xs x h e in let o = one (p y) in omega (arith, sum_by-cons (λ z. cond (p z) 1 0) y xs)

pub sum_at_most : {X : Type 0} (f : X → ℕ) (n : ℕ) (xs : List X) → ((x : X) → In x xs → f x ≤ n) → sum_by f xs ≤ length xs * n
sum_at_most f n [] h = omega arith
sum_at_most f n (x ∷ xs) h = let r = sum_at_most f n xs (λ y i. h y (inr i)) in let o = h x (inl refl) in omega (arith, sum_by-cons f x xs)

-- loads
pub sum_alike : {X : Type 0} (f g : X → ℕ) (xs : List X) → ((x : X) → In x xs → f x ≡ g x) → sum_by f xs ≡ sum_by g xs
sum_alike f g [] e = refl
sum_alike f g (x ∷ xs) e = let first = e x (inl refl) in let rest = sum_alike f g xs (λ y h. e y (inr h)) in omega (arith, sum_by-cons f x xs, sum_by-cons g x xs)
