-- Sums and counts over the numbers below a bound, and over the places that a one-to-one list gives.
use Rattle.std.proofs.Common.{◌≡◌, ⊎_elim, ℕ, zero, suc, ◌+◌, ◌*◌, ◌<◌, ◌≤◌, Bool, true, false, cond, ◌&&◌, eqb, refl, sym, ap, ◌∙◌, arith, add-mul, one-mul, zero-mul}
use Rattle.std.proofs.lemmas.Bool.{cases_eq, eq-eqb, ne_eqb}
use Rattle.shunt_lists.specs.defs.Below.{count_below, sum_below}

pub sum_below-same : (n : ℕ) (f g : ℕ → ℕ) → ((i : ℕ) → i < n → f i ≡ g i) → sum_below n f ≡ sum_below n g
sum_below-same zero f g h = refl
sum_below-same (suc n) f g h = omega (arith, sum_below-same n f g (λ i lt. h i (omega arith)), h n (omega arith))

pub sum_below-zero : (n : ℕ) (f : ℕ → ℕ) → ((i : ℕ) → i < n → f i ≡ 0) → sum_below n f ≡ 0
sum_below-zero zero f h = refl
sum_below-zero (suc n) f h = omega (arith, sum_below-zero n f (λ i lt. h i (omega arith)), h n (omega arith))

pub sum_below-add : (n : ℕ) (f g : ℕ → ℕ) → sum_below n (λ i. f i + g i) ≡ sum_below n f + sum_below n g
sum_below-add zero f g = refl
sum_below-add (suc n) f g = omega (arith, sum_below-add n f g)

-- a table's sum by rows is its sum by columns
pub exchange : (m n : ℕ) (f : ℕ → ℕ → ℕ) → sum_below m (λ i. sum_below n (f i)) ≡ sum_below n (λ j. sum_below m (λ i. f i j))
exchange zero n f = sym (sum_below-zero n (λ j. 0) (λ i lt. refl))
exchange (suc m) n f = omega (arith, exchange m n f, sum_below-add n (λ j. sum_below m (λ i. f i j)) (f m))

-- nothing but at one number
pub sum_below-one : (n : ℕ) (f : ℕ → ℕ) (i : ℕ) → i < n → ((j : ℕ) → j < n → (j ≡ i → ⊥) → f j ≡ 0) → sum_below n f ≡ f i
sum_below-one zero f i lt h = absurd (omega arith)
sum_below-one (suc n) f i lt h = ⊎_elim
    (λ same. omega (arith, ap f same, sum_below-zero n f (λ j a. h j (omega arith) (λ e. omega arith))))
    (λ other. omega (arith, sum_below-one n f i (omega arith) (λ j a. h j (omega arith)), h n (omega arith) (λ e. other (sym e)))) (cases_eq i n)

times_flag : (b : Bool) (x : ℕ) → cond b x 0 ≡ cond b 1 0 * x
times_flag true x = sym (one-mul x)
times_flag false x = sym (zero-mul x)

-- x for each that passes
pub sum_below-times : (n : ℕ) (p : ℕ → Bool) (x : ℕ) → sum_below n (λ i. cond (p i) x 0) ≡ count_below n p * x
sum_below-times zero p x = sym (zero-mul x)
sum_below-times (suc n) p x = omega (arith, sum_below-times n p x, times_flag (p n) x, add-mul (count_below n p) (cond (p n) 1 0) x)

column : (n : ℕ) (given : ℕ → Bool) (v : ℕ) (b : Bool) (x : ℕ) → (b ≡ true → count_below n given ≡ 1) → sum_below n (λ u. cond b (cond (given u) x 0) 0) ≡ cond b x 0
column n given v true x once = sum_below-times n given x ∙ ap (λ k. k * x) (once refl) ∙ one-mul x
column n given v false x once = sum_below-zero n (λ u. 0) (λ u lt. refl)

at_place : (b : Bool) (p : ℕ) (x : ℕ) → b ≡ true → cond b (cond (eqb p p) x 0) 0 ≡ x
at_place b p x e = ap (λ (t : Bool). cond t (cond (eqb p p) x 0) 0) e ∙ ap (λ (t : Bool). cond t x 0) (eq-eqb p p refl)

off_place : (b : Bool) (p j : ℕ) (x : ℕ) → (j ≡ p → ⊥) → cond b (cond (eqb p j) x 0) 0 ≡ 0
off_place true p j x ne = ap (λ (t : Bool). cond t x 0) (ne_eqb p j (λ e. ne (sym e)))
off_place false p j x ne = refl

nothing : (b : Bool) → cond b 0 0 ≡ zero
nothing true = refl
nothing false = refl

row : (n : ℕ) (b : ℕ → Bool) (a : Bool) (p : ℕ) (f : ℕ → ℕ) → (a ≡ true → (p < n) × (b p ≡ true)) → sum_below n (λ v. cond (b v) (cond (a && eqb p v) (f v) 0) 0) ≡ cond a (f p) 0
row n b true p f given = let g = given refl in
    sum_below-one n (λ v. cond (b v) (cond (eqb p v) (f v) 0) 0) p g.0 (λ j lt ne. off_place (b j) p j (f j) ne) ∙ at_place (b p) p (f p) g.1
row n b false p f given = sum_below-zero n (λ v. cond (b v) 0 0) (λ j lt. nothing (b j))

-- each that passes a is given one that passes b, and each of these is given once: the sums agree
pub sum_of_places : (m n : ℕ) (a b : ℕ → Bool) (place f : ℕ → ℕ)
    → ((u : ℕ) → u < m → a u ≡ true → (place u < n) × (b (place u) ≡ true))
    → ((v : ℕ) → v < n → b v ≡ true → count_below m (λ u. a u && eqb (place u) v) ≡ 1)
    → sum_below n (λ v. cond (b v) (f v) 0) ≡ sum_below m (λ u. cond (a u) (f (place u)) 0)
sum_of_places m n a b place f given once =
    let cell : ℕ → ℕ → ℕ = λ u v. cond (b v) (cond (a u && eqb (place u) v) (f v) 0) 0 in
    sum_below-same n (λ v. cond (b v) (f v) 0) (λ v. sum_below m (λ u. cell u v)) (λ v lt. sym (column m (λ u. a u && eqb (place u) v) v (b v) (f v) (once v lt)))
    ∙ sym (exchange m n cell)
    ∙ sum_below-same m (λ u. sum_below n (cell u)) (λ u. cond (a u) (f (place u)) 0) (λ u lt. row n b (a u) (place u) f (given u lt))

flag_and : (a b : Bool) → cond (a && b) 1 0 ≡ cond a (cond b 1 0) zero
flag_and true b = refl
flag_and false b = refl

count_as_sum : (n : ℕ) (p q : ℕ → Bool) → count_below n (λ i. p i && q i) ≡ sum_below n (λ i. cond (p i) (cond (q i) 1 0) 0)
count_as_sum zero p q = refl
count_as_sum (suc n) p q = omega (arith, count_as_sum n p q, flag_and (p n) (q n))

-- and so do the counts
pub count_of_places : (m n : ℕ) (a b : ℕ → Bool) (place : ℕ → ℕ) (p : ℕ → Bool)
    → ((u : ℕ) → u < m → a u ≡ true → (place u < n) × (b (place u) ≡ true))
    → ((v : ℕ) → v < n → b v ≡ true → count_below m (λ u. a u && eqb (place u) v) ≡ 1)
    → count_below n (λ v. b v && p v) ≡ count_below m (λ u. a u && p (place u))
count_of_places m n a b place p given once =
    count_as_sum n b p ∙ sum_of_places m n a b place (λ v. cond (p v) 1 0) given once ∙ sym (count_as_sum m a (λ u. p (place u)))

-- values of at most most
pub sum_below-small : (n most : ℕ) (value : ℕ → ℕ) → ((k : ℕ) → value k ≤ most) → sum_below n value ≤ most * n
sum_below-small zero most value h = omega arith
sum_below-small (suc n) most value h = omega (arith, h n, sum_below-small n most value h)
