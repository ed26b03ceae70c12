-- Sums of signed numbers, and bounds.
use Rattle.std.specs.Prelude.{◌==◌, ◌&&◌, nat_le, nat_lt, cond, ◌≤ℤ◌, ◌-ℤ◌, ◌<ℤ◌, ◌*ℤ◌}
use Rattle.std.proofs.Common.{◌≡◌, ⊎_elim, ℕ, zero, suc, ◌+◌, ◌/◌, ◌<◌, ◌≤◌, Bool, true, false, List, [], ◌∷◌, ◌++◌, ℤ, pos, negsuc, neg_ℤ, ◌+ℤ◌, refl, sym, ap, ◌∙◌, arith, ◌*◌}
use Rattle.std.proofs.Math.Nat.{mul-div-le, lt-div-mul-add}
use Rattle.std.proofs.lemmas.Int.{ints, clamps}
use Rattle.std.proofs.lemmas.Bool.{cases_lt, cases_eq, eq-eqb, ne_eqb, false≢true}
use Rattle.std.proofs.lemmas.Bool.Decides.{nat_tests}
use Rattle.shunt_prices.specs.defs.Sums.{sum_z, sum_z_below, IsWithin}
use Rattle.shunt_prices.specs.defs.Bounds.{IsBoundOf}
use mir.Syntax.{w64}
use mir.Val.{to_z, of_z}
use lib.Signed.{lt_z}
use Rattle.std.specs.Int.{int_max}
use Rattle.shunt_prices.specs.defs.Limits.{IsValue}
use Rattle.shunt_prices.proofs.Sizes.{wider, times_within}

-- ---- lists

pub sum_z-append : {X : Type 0} (value : X → ℤ) (xs ys : List X) → sum_z value (xs ++ ys) ≡ sum_z value xs +ℤ sum_z value ys
sum_z-append value [] ys = omega (arith, ints)
sum_z-append value (x ∷ xs) ys = omega (arith, ints, sum_z-append value xs ys)

pub sum_z_push : {X : Type 0} (value : X → ℤ) (xs : List X) (x : X) → sum_z value (xs ++ x ∷ []) ≡ sum_z value xs +ℤ value x
sum_z_push value xs x = omega (arith, ints, sum_z-append value xs (x ∷ []))

-- ---- numbers below one

pub sum_z_below-same : (n : ℕ) (f g : ℕ → ℤ) → ((i : ℕ) → i < n → f i ≡ g i) → sum_z_below n f ≡ sum_z_below n g
sum_z_below-same zero f g h = refl
sum_z_below-same (suc n) f g h = omega (arith, ints, sum_z_below-same n f g (λ i lt. h i (omega arith)), h n (omega arith))

pub sum_z_below-zero : (n : ℕ) (f : ℕ → ℤ) → ((i : ℕ) → i < n → f i ≡ pos 0) → sum_z_below n f ≡ pos 0
sum_z_below-zero zero f h = refl
sum_z_below-zero (suc n) f h = omega (arith, ints, sum_z_below-zero n f (λ i lt. h i (omega arith)), h n (omega arith))

pub sum_z_below-add : (n : ℕ) (f g : ℕ → ℤ) → sum_z_below n (λ i. f i +ℤ g i) ≡ sum_z_below n f +ℤ sum_z_below n g
sum_z_below-add zero f g = refl
sum_z_below-add (suc n) f g = omega (arith, ints, sum_z_below-add n f g)

-- nothing but at one number
pub sum_z_below-one : (n : ℕ) (f : ℕ → ℤ) (i : ℕ) → i < n → ((j : ℕ) → j < n → (j ≡ i → ⊥) → f j ≡ pos 0) → sum_z_below n f ≡ f i
sum_z_below-one zero f i lt h = absurd (omega arith)
sum_z_below-one (suc n) f i lt h = ⊎_elim
    (λ same. omega (arith, ints, ap f same, sum_z_below-zero n f (λ j a. h j (omega arith) (λ e. omega arith))))
    (λ other. omega (arith, ints, sum_z_below-one n f i (omega arith) (λ j a. h j (omega arith)), h n (omega arith) (λ e. other (sym e)))) (cases_eq i n)

-- ---- runs of numbers

-- whether i is one of the m numbers from one on
abbrev pub is_within : ℕ → ℕ → ℕ → Bool
is_within from m i = nat_le from i && nat_lt i (from + m)

within_more : (from m i : ℕ) (z : ℤ) → cond (is_within from (suc m) i) z (pos 0) ≡ cond (is_within from m i) z (pos 0) +ℤ cond (i == from + m) z (pos 0)
within_more from m i z = ⊎_elim
    (λ less. alike (is_within from (suc m) i) (is_within from m i) (i == from + m) (grind (arith, nat_tests)) (grind (arith, nat_tests)))
    (λ more. ⊎_elim
    (λ same. one (is_within from (suc m) i) (is_within from m i) (i == from + m) (grind (arith, nat_tests)) (grind (arith, nat_tests)) (grind (arith, nat_tests)))
    (λ other. alike (is_within from (suc m) i) (is_within from m i) (i == from + m) (grind (arith, nat_tests)) (grind (arith, nat_tests)))
    (cases_eq i (from + m)))
    (cases_lt i (from + m))
  where
    alike : (a b e : Bool) → a ≡ b → e ≡ false → cond a z (pos 0) ≡ cond b z (pos 0) +ℤ cond e z (pos 0)
    alike true true false p q = omega (arith, ints)
    alike false false false p q = refl
    alike a b true p q = absurd (false≢true (sym q))
    alike true false e p q = absurd (false≢true (sym p))
    alike false true e p q = absurd (false≢true p)

    one : (a b e : Bool) → a ≡ true → b ≡ false → e ≡ true → cond a z (pos 0) ≡ cond b z (pos 0) +ℤ cond e z (pos 0)
    one true false true p q r = omega (arith, ints)
    one false b e p q r = absurd (false≢true p)
    one a true e p q r = absurd (false≢true (sym q))
    one a b false p q r = absurd (false≢true r)

pub window : (n from m : ℕ) (f : ℕ → ℤ) → from + m ≤ n → sum_z_below n (λ i. cond (is_within from m i) (f i) (pos 0)) ≡ sum_z_below m (λ k. f (from + k))
window n from zero f le = sum_z_below-zero n _ (λ i lt. ap (λ t. cond t (f i) (pos 0)) (outside i))
  where
    outside : (i : ℕ) → is_within from 0 i ≡ false
    outside i = grind (arith, nat_tests)
window n from (suc m) f le =
    sum_z_below-same n _ _ (λ i lt. within_more from m i (f i))
    ∙ sum_z_below-add n (λ i. cond (is_within from m i) (f i) (pos 0)) (λ i. cond (i == from + m) (f i) (pos 0))
    ∙ omega (arith, ints, window n from m f (omega (arith, le)), last)
  where
    last : sum_z_below n (λ i. cond (i == from + m) (f i) (pos 0)) ≡ f (from + m)
    last = sum_z_below-one n (λ i. cond (i == from + m) (f i) (pos 0)) (from + m) (omega (arith, le)) (λ j lt ne. ap (λ t. cond t (f j) (pos 0)) (ne_eqb j (from + m) ne))
        ∙ ap (λ t. cond t (f (from + m)) (pos 0)) (eq-eqb (from + m) (from + m) refl)

-- ---- bounds

pub round_up : (sum : ℤ) → (bound : ℤ) × IsBoundOf sum bound
round_up (pos n) = (
  pos ((n + 999) / 1000),
  record {
    enough = omega (arith, ints, lt-div-mul-add {a = n + 999} {b = 1000} (omega arith));
    least = omega
        (arith, ints, mul-div-le (n + 999) 1000);
  },
)
round_up (negsuc n) = (
  neg_ℤ (pos ((n + 1) / 1000)),
  record {
    enough = omega (arith, ints, mul-div-le (n + 1) 1000);
    least = omega
        (arith, ints, lt-div-mul-add {a = n + 1} {b = 1000} (omega arith));
  },
)

-- a greater sum has no lesser bound
pub bound_rises : (sum more bound other : ℤ) → sum ≤ℤ more → IsBoundOf sum bound → IsBoundOf more other → bound ≤ℤ other
bound_rises sum more bound other le b c = omega (arith, ints, le, b.least, c.enough)

pub joined : (z a b c d : ℤ) → z ≡ a +ℤ b → a ≡ c → b ≡ d → z ≡ c +ℤ d
joined z a b c d e p q = e ∙ ap (λ (x : ℤ). x +ℤ b) p ∙ ap (λ (x : ℤ). c +ℤ x) q

pub number_seen : (n : ℕ) → n ≤ 160 → to_z w64 n ≡ pos n
number_seen n le = omega (arith, ints)

pub five : (w a b p s v c d q t : ℤ) → w ≡ v → a ≡ c → b ≡ d → p ≡ q → s ≡ t → w +ℤ (a +ℤ b) -ℤ p -ℤ s ≡ v +ℤ (c +ℤ d) -ℤ q -ℤ t
five w a b p s v c d q t ew ea eb ep es =
    ap (λ (x : ℤ). x +ℤ (a +ℤ b) -ℤ p -ℤ s) ew ∙ ap (λ (x : ℤ). v +ℤ (x +ℤ b) -ℤ p -ℤ s) ea ∙ ap (λ (x : ℤ). v +ℤ (c +ℤ x) -ℤ p -ℤ s) eb
    ∙ ap (λ (x : ℤ). v +ℤ (c +ℤ d) -ℤ x -ℤ s) ep ∙ ap (λ (x : ℤ). v +ℤ (c +ℤ d) -ℤ q -ℤ x) es

pub below : (a b : ℤ) → lt_z a b ≡ true → a <ℤ b
below a b e = grind (arith, ints)

pub not_below : (a b : ℤ) → lt_z a b ≡ false → b ≤ℤ a
not_below a b e = grind (arith, ints)

pub max_apart : (x y z : ℤ) → int_max (int_max x y) z ≡ int_max x (int_max y z)
max_apart x y z = omega (arith, ints, clamps)

pub either_value : (b : Bool) (z : ℤ) → IsValue z → IsValue (cond b (pos 0) z)
either_value true z v = record { low = omega (arith, ints); high = omega (arith, ints) }
either_value false z v = v

pub value_seen : (z : ℤ) → IsValue z → to_z w64 (of_z w64 z) ≡ z
value_seen z v = omega (arith, ints, v.low, v.high)

pub small_seen : (z : ℤ) → IsWithin 159999999999840 z → to_z w64 (of_z w64 z) ≡ z
small_seen z w = omega (arith, ints, w.low, w.high)

pub product_seen : (m : ℤ) (n : ℕ) → IsValue m → n ≤ 160 → to_z w64 (of_z w64 (to_z w64 (of_z w64 m) *ℤ to_z w64 n)) ≡ m *ℤ pos n
product_seen m n v le =
    ap (λ (x : ℤ). to_z w64 (of_z w64 (x *ℤ to_z w64 n))) (value_seen m v)
    ∙ ap (λ (y : ℤ). to_z w64 (of_z w64 (m *ℤ y))) (number_seen n le)
    ∙ small_seen (m *ℤ pos n) (wider (999999999999 * n) 159999999999840 (m *ℤ pos n) (omega (arith, le)) (times_within 999999999999 n m (record { low = v.low; high = v.high })))
