-- Counts and sums over the numbers below a bound.
use Rattle.std.proofs.Common.{◌≡◌, ⊎_elim, ℕ, zero, suc, ◌+◌, ◌<◌, ◌≤◌, Bool, true, false, cond, refl, sym, ap, subst, add-one, arith}
use Rattle.std.proofs.lemmas.Bool.{cases_Bool, cases_lt, cases_order}
use Rattle.shunt_lists.specs.defs.Below.{count_below}

abbrev flag : Bool → ℕ
flag b = cond b 1 0

flag_le : (a b : Bool) → (a ≡ true → b ≡ true) → flag a ≤ flag b
flag_le true b h = let e : flag b ≡ 1 = ap flag (h refl) in omega arith
flag_le false b h = omega arith

flag_true : (a : Bool) → a ≡ true → flag a ≡ 1
flag_true a e = ap flag e

flag_false : (a : Bool) → a ≡ false → flag a ≡ 0
flag_false a e = ap flag e

-- ---- more numbers, or more that pass

pub count_below-le : (n : ℕ) (p q : ℕ → Bool) → ((i : ℕ) → i < n → p i ≡ true → q i ≡ true) → count_below n p ≤ count_below n q
count_below-le zero p q h = omega arith
count_below-le (suc n) p q h = omega (arith, count_below-le n p q (λ i lt. h i (omega arith)), flag_le (p n) (q n) (h n (omega arith)))

pub count_below-same : (n : ℕ) (p q : ℕ → Bool) → ((i : ℕ) → i < n → p i ≡ q i) → count_below n p ≡ count_below n q
count_below-same zero p q h = refl
count_below-same (suc n) p q h = omega (arith, count_below-same n p q (λ i lt. h i (omega arith)), ap flag (h n (omega arith)))

pub count_below-none : (n : ℕ) (p : ℕ → Bool) → ((i : ℕ) → i < n → p i ≡ false) → count_below n p ≡ 0
count_below-none zero p h = refl
count_below-none (suc n) p h = omega (arith, count_below-none n p (λ i lt. h i (omega arith)), flag_false (p n) (h n (omega arith)))

pub count_below-longer : (n m : ℕ) (p : ℕ → Bool) → n ≤ m → count_below n p ≤ count_below m p
count_below-longer n zero p le = let e : n ≡ 0 = omega arith in subst (λ (k : ℕ). count_below k p ≤ 0) (sym e) (omega arith)
count_below-longer n (suc m) p le = ⊎_elim
    (λ lt. let e : n ≡ suc m = omega arith in subst (λ (k : ℕ). count_below k p ≤ count_below (suc m) p) (sym e) (omega arith))
    (λ le. omega (arith, count_below-longer n m p le)) (cases_lt m n)

-- none from n on
pub count_below-stops : (n m : ℕ) (p : ℕ → Bool) → n ≤ m → ((i : ℕ) → n ≤ i → i < m → p i ≡ false) → count_below m p ≡ count_below n p
count_below-stops n zero p le h = let e : n ≡ 0 = omega arith in subst (λ (k : ℕ). 0 ≡ count_below k p) (sym e) refl
count_below-stops n (suc m) p le h = ⊎_elim
    (λ lt. let e : n ≡ suc m = omega arith in subst (λ (k : ℕ). count_below (suc m) p ≡ count_below k p) (sym e) refl)
    (λ le. omega (arith, count_below-stops n m p le (λ i a b. h i a (omega arith)), flag_false (p m) (h m le (omega arith)))) (cases_lt m n)

-- those below m that pass p are below n and pass q
pub count_below-within : (n m : ℕ) (p q : ℕ → Bool) → ((i : ℕ) → i < m → p i ≡ true → (i < n) × (q i ≡ true)) → count_below m p ≤ count_below n q
count_below-within n m p q h = ⊎_elim
    (λ lt. omega (
      arith,
      count_below-stops n m p (omega arith) (λ i a b. ⊎_elim (λ passes. let k = h i b passes in absurd (omega (arith, k.0))) (λ none. none) (cases_Bool (p i))),
      count_below-le n p q (λ i a passes. (h i (omega arith) passes).1),
    ))
    (λ le. omega (arith, count_below-le m p q (λ i a passes. (h i a passes).1), count_below-longer m n q le)) (cases_lt n m)

-- ---- ranks

pub count_below-rises : (p : ℕ → Bool) (i j : ℕ) → i < j → p i ≡ true → count_below i p < count_below j p
count_below-rises p i j lt passes = omega (arith, count_below-longer (suc i) j p (omega arith), flag_true (p i) passes)

-- of those that pass, no two have as many before them
pub same_rank : (p : ℕ → Bool) (i j : ℕ) → p i ≡ true → p j ≡ true → count_below i p ≡ count_below j p → i ≡ j
same_rank p i j a b e = ⊎_elim (λ same. same)
    (λ other. ⊎_elim
    (λ lt. absurd (omega (arith, count_below-rises p i j lt a)))
    (λ lt. absurd (omega (arith, count_below-rises p j i lt b))) other) (cases_order i j)

-- the one that passes with k before it
pub of_rank : (n : ℕ) (p : ℕ → Bool) (k : ℕ) → k < count_below n p → (i : ℕ) × (i < n) × (p i ≡ true) × (count_below i p ≡ k)
of_rank zero p k lt = absurd (omega arith)
of_rank (suc n) p k lt = ⊎_elim
    (λ less. let w = of_rank n p k less in (w.0, omega (arith, w.1), w.2, w.3))
    (λ le. ⊎_elim
    (λ passes. (n, omega arith, passes, omega (arith, flag_true (p n) passes)))
    (λ none. absurd (omega (arith, flag_false (p n) none))) (cases_Bool (p n))) (cases_lt k (count_below n p))

-- exactly one passes
pub count_below-one : (n : ℕ) (p : ℕ → Bool) (i : ℕ) → i < n → p i ≡ true → ((j : ℕ) → j < n → p j ≡ true → j ≡ i) → count_below n p ≡ 1
count_below-one n p i lt passes only =
    let other : (j : ℕ) → j < n → (j ≡ i → ⊥) → p j ≡ false = λ j below ne. ⊎_elim (λ too. absurd (ne (only j below too))) (λ none. none) (cases_Bool (p j)) in
    omega (
      arith,
      count_below-none i p (λ j a. other j (omega arith) (λ e. omega arith)),
      count_below-stops (suc i) n p (omega arith) (λ j a b. other j b (λ e. omega arith)),
      flag_true (p i) passes,
    )

-- one number more, as a loop counts
pub count_below-more : (n : ℕ) (p : ℕ → Bool) → count_below (n + 1) p ≡ count_below n p + cond (p n) 1 0
count_below-more n p = ap (λ k. count_below k p) (add-one n)
