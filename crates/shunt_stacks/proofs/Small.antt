-- Values that are small.
use Rattle.std.specs.Prelude.{IfSome, Option, Some, None, cond, map}
use Rattle.std.proofs.Common.{ℕ, ℤ, arith, ◌≤◌, Bool, true, false, refl, ◌≡◌, pos, ◌+◌, inl, inr, List, [], ◌∷◌, ◌⊎◌}
use Rattle.std.proofs.lemmas.Int.{ints, clamps}
use Rattle.shunt_prices.specs.defs.Sums.{IsWithin}
use Rattle.shunt_stacks.specs.defs.Spans.{greater, plus, Span, greatest_of, best_at}
use Rattle.shunt_lists.specs.defs.Members.{In}

pub wider : (j k : ℕ) (a : Option ℤ) → j ≤ k → IfSome a (IsWithin j) → IfSome a (IsWithin k)
wider j k None le h = tt
wider j k (Some x) le h = record { low = omega (arith, ints, h.low, le); high = omega (arith, ints, h.high, le) }

pub cond_small : (k : ℕ) (t : Bool) (o : Option ℤ) → (t ≡ true → IfSome o (IsWithin k)) → IfSome (cond t o None) (IsWithin k)
cond_small k true o h = h refl
cond_small k false o h = tt

pub either_small : (k : ℕ) (t : Bool) (o : Option ℤ) → (t ≡ false → IfSome o (IsWithin k)) → IfSome (cond t (Some (pos 0)) o) (IsWithin k)
either_small k true o h = record { low = omega (arith, ints); high = omega (arith, ints) }
either_small k false o h = h refl

pub greater_small : (k : ℕ) (a b : Option ℤ) → IfSome a (IsWithin k) → IfSome b (IsWithin k) → IfSome (greater a b) (IsWithin k)
greater_small k None b h g = g
greater_small k (Some x) None h g = h
greater_small k (Some x) (Some y) h g = record { low = omega (arith, ints, clamps, h.low, g.low); high = omega (arith, ints, clamps, h.high, g.high) }

pub plus_small : (j k m : ℕ) (a b : Option ℤ) → j + k ≤ m → IfSome a (IsWithin j) → IfSome b (IsWithin k) → IfSome (plus a b) (IsWithin m)
plus_small j k m None b le h g = tt
plus_small j k m (Some x) None le h g = tt
plus_small j k m (Some x) (Some y) le h g = record { low = omega (arith, ints, h.low, g.low, le); high = omega (arith, ints, h.high, g.high, le) }

pub most_small : (k : ℕ) (value : Span → Option ℤ) (spans : List Span) → ((s : Span) → In s spans → IfSome (value s) (IsWithin k))
    → IfSome (greatest_of (map value spans)) (IsWithin k)
most_small k value [] h = tt
most_small k value (s ∷ spans) h = greater_small k (value s) (greatest_of (map value spans)) (h s (inl refl)) (most_small k value spans (λ t i. h t (inr i)))

pub at_small : (k : ℕ) (fixed free : List Span) (without : Option ℤ) (value : Span → Option ℤ) → IfSome without (IsWithin k) →
    ((s : Span) → In s fixed ⊎ In s free → IfSome (value s) (IsWithin k)) → IfSome (best_at fixed free without value) (IsWithin k)
at_small k [] free without value w h = greater_small k without (greatest_of (map value free)) w (most_small k value free (λ s i. h s (inr i)))
at_small k (f ∷ fixed) free without value w h = most_small k value (f ∷ fixed) (λ s i. h s (inl i))
