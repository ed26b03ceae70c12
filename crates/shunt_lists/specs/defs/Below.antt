-- All numbers below one.
use Rattle.std.specs.Prelude.{ℕ, zero, suc, ◌+◌, Bool, true, cond, ◌&&◌}

-- whether each number below n passes the test
abbrev pub all_below : ℕ → (ℕ → Bool) → Bool
all_below zero test = true
all_below (suc n) test = all_below n test && test n

-- how many of the numbers below n pass the test
abbrev pub count_below : ℕ → (ℕ → Bool) → ℕ
count_below zero test = 0
count_below (suc n) test = count_below n test + cond (test n) 1 0

-- the values at the numbers below n, added up
abbrev pub sum_below : ℕ → (ℕ → ℕ) → ℕ
sum_below zero value = 0
sum_below (suc n) value = sum_below n value + value n
