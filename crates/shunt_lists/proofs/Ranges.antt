-- Numbers in a row.
use Rattle.std.specs.List.{range_with_len}
use Rattle.std.proofs.Common.{◌≡◌, ◌⊎◌, ⊎_elim, inl, inr, ℕ, zero, suc, ◌+◌, ◌<◌, ◌≤◌, arith}
use Rattle.shunt_lists.specs.defs.Members.{In}

pub range_in : (a n k : ℕ) → In k (range_with_len a n) → (a ≤ k) × (k < a + n)
range_in a zero k h = absurd h
range_in a (suc n) k (inl e) = (omega (arith, e), omega (arith, e))
range_in a (suc n) k (inr h) = let r = range_in (a + 1) n k h in (omega (arith, r.0), omega (arith, r.1))

pub in_range : (a n k : ℕ) → a ≤ k → k < a + n → In k (range_with_len a n)
in_range a zero k from to = absurd (omega arith)
in_range a (suc n) k from to = ⊎_elim (λ e. inl e) (λ more. inr (in_range (a + 1) n k more (omega arith))) (first a k from)
  where
    first : (a k : ℕ) → a ≤ k → (k ≡ a) ⊎ (a + 1 ≤ k)
    first a k from = grind arith
