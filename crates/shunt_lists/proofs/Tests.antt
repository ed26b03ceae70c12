-- Tests of numbers, and truth values.
use Rattle.std.proofs.Common.{ℕ, true, arith, ◌≡◌, Bool, false, cond, ◌≤◌, inl, inr, ⊎_elim, ◌⊎◌, not, refl, ◌<◌, ◌≢◌, sym, ◌∙◌, suc, ◌+◌, ◌-◌, ltb, leb}
use Rattle.std.proofs.lemmas.Bool.Decides.{nat_tests}
use Rattle.std.specs.Prelude.{◌==◌, nat_le, ◌||◌, if◌then◌else◌, ◌&&◌, IsTrue, ◌↔◌, nat_lt}
use Rattle.std.proofs.lemmas.Bool.{cases_eq, cases_lt, true≢false, lt-ltb}

pub equal_of : (m n : ℕ) → m == n ≡ true → m ≡ n
equal_of m n e = grind (arith, nat_tests)

pub flag_small : (b : Bool) → cond b 1 0 ≤ 1
flag_small true = omega arith
flag_small false = omega arith

pub either_test : (a b p q : ℕ) → ((a == b) || nat_le p q) ≡ true → (a ≡ b) ⊎ (p ≤ q)
either_test a b p q e = ⊎_elim (λ (h : a ≡ b). inl h) (λ (ne : a ≡ b → ⊥). inr (grind (arith, nat_tests))) (cases_eq a b)

pub last_test : (a b p q : ℕ) → a ≡ b → ((a == b) || nat_le p q) ≡ true
last_test a b p q e = grind (arith, nat_tests)

pub few_test : (a b p q : ℕ) → p ≤ q → ((a == b) || nat_le p q) ≡ true
few_test a b p q le = grind (arith, nat_tests)

pub alike_is : (a b : Bool) → (if a then b else not b) ≡ true → a ≡ b
alike_is true true e = refl
alike_is true false e = absurd cc
alike_is false true e = absurd cc
alike_is false false e = refl

pub never_both : (b : Bool) → b ≡ true → b ≡ false → ⊥
never_both b t f = absurd cc

pub le_from : (m n : ℕ) → nat_le m n ≡ true → m ≤ n
le_from m n e = grind (arith, nat_tests)

pub equal_to : (x y : ℕ) → x ≡ y → (x == y) ≡ true
equal_to x y e = grind (arith, nat_tests)

pub same_number : (n : ℕ) → (n == n) ≡ true
same_number n = grind (arith, nat_tests)

pub first_true : (a b : Bool) → a ≡ true → (a || b) ≡ true
first_true true b e = refl
first_true false b e = absurd cc

pub second_true : (a b : Bool) → b ≡ true → (a || b) ≡ true
second_true true b e = refl
second_true false b e = e

pub no_le : (m n : ℕ) → n < m → nat_le m n ≡ false
no_le m n lt = grind (arith, nat_tests)

pub strictly_below : (x y : ℕ) → x ≤ y → x ≢ y → x < y
strictly_below x y le ne = ⊎_elim (λ lt. lt) (λ ge. absurd (ne (omega arith))) (cases_lt x y)

pub flag_zero : (t : Bool) → t ≡ false → ◌≡◌ {A = ℕ} (cond t 1 0) 0
flag_zero true e = absurd (true≢false e)
flag_zero false e = refl

pub all_three : (a b c : Bool) → (a && b && c) ≡ true → (a ≡ true) × (b ≡ true) × (c ≡ true)
all_three true true c e = (refl, refl, e)
all_three true false c e = absurd (true≢false (sym e))
all_three false b c e = absurd (true≢false (sym e))

pub from_three : (a b c : Bool) → a ≡ true → b ≡ true → c ≡ true → (a && b && c) ≡ true
from_three true true c e f g = g
from_three true false c e f g = f
from_three false b c e f g = e

pub unequal_from : (a b : ℕ) → (a == b) ≡ false → a ≢ b
unequal_from a b e same = let is : (a == b) ≡ true = grind (arith, nat_tests, same) in true≢false (sym is ∙ e)

pub refutes : (P Q : Type 0) (b : Bool) → IsTrue b ↔ P → b ≡ false → (Q → P) → IsTrue false ↔ Q
refutes P Q b is e to = (λ (t : false ≡ true). cc, λ (q : Q). let h : b ≡ true = is.1 (to q) in cc)

pub one_left : (v total : ℕ) → v < total → total - v ≡ suc (total - (v + 1))
one_left v total lt = omega arith

pub lt_true : (m n : ℕ) → m < n → nat_lt m n ≡ true
lt_true m n lt = lt-ltb m n lt

pub lt_from : (m n : ℕ) → nat_le m n ≡ false → n < m
lt_from m n e = grind (arith, nat_tests)

pub both_true : (a b : Bool) → (a && b) ≡ true → (a ≡ true) × (b ≡ true)
both_true true b e = (refl, e)
both_true false b e = absurd cc

pub is_alike : (a b : Bool) → a ≡ b → (if a then b else not b) ≡ true
is_alike true true e = refl
is_alike true false e = absurd cc
is_alike false true e = absurd cc
is_alike false false e = refl

pub or_cases : (p q : Bool) → (p || q) ≡ true → (p ≡ true) ⊎ (q ≡ true)
or_cases true q e = inl refl
or_cases false q e = inr e

pub yes_le : (m n : ℕ) → m ≤ n → nat_le m n ≡ true
yes_le m n le = grind (arith, nat_tests)

pub off_right : (p : Bool) → (p && false) ≡ false
off_right true = refl
off_right false = refl

pub no_span : (e l m : ℕ) → m < e → (leb e m && ltb m l) ≡ false
no_span e l m lt = grind (arith, nat_tests)
