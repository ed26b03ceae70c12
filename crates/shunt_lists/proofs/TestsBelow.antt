-- Tests of all numbers below one.
use Rattle.std.specs.Prelude.{IsTrue, ◌↔◌}
use Rattle.std.proofs.Common.{◌≡◌, ⊎_elim, ℕ, zero, suc, ◌<◌, Bool, true, refl, subst, arith}
use Rattle.std.proofs.lemmas.Bool.{and_parts, and_from, cases_lt}
use Rattle.shunt_lists.specs.defs.Below.{all_below}

pub each_passes : (n : ℕ) (test : ℕ → Bool) → all_below n test ≡ true → (k : ℕ) → k < n → test k ≡ true
each_passes zero test all k lt = absurd (omega arith)
each_passes (suc n) test all k lt = ⊎_elim
    (λ less. each_passes n test (and_parts (all_below n test) (test n) all).0 k less)
    (λ le. let e : n ≡ k = omega arith in subst (λ (m : ℕ). test m ≡ true) e (and_parts (all_below n test) (test n) all).1)
    (cases_lt k n)

pub all_pass : (n : ℕ) (test : ℕ → Bool) → ((k : ℕ) → k < n → test k ≡ true) → all_below n test ≡ true
all_pass zero test each = refl
all_pass (suc n) test each = and_from (all_below n test) (test n) (all_pass n test (λ k lt. each k (omega arith))) (each n (omega arith))

pub tests : (n : ℕ) (test : ℕ → Bool) → IsTrue (all_below n test) ↔ ((k : ℕ) → k < n → IsTrue (test k))
tests n test = (λ all. each_passes n test all, λ each. all_pass n test each)
