-- Values within their limits, with one more.
use Rattle.std.specs.Prelude.{All}
use Rattle.std.proofs.Common.{◌≡◌, ℕ, ◌+◌, List, [], ◌∷◌, ◌++◌, length, ℤ, sym, subst, arith}
use Rattle.std.proofs.lemmas.List.{length-append}
use Rattle.std.proofs.lemmas.List.Elements.{All-append, All-cons, All-nil}
use Rattle.shunt_prices.specs.defs.Limits.{IsValue}

pub one_more : (old new : List ℤ) (z : ℤ) (n : ℕ) → new ≡ old ++ z ∷ [] → length old ≡ n → length new ≡ n + 1
one_more old new z n e size = subst (λ (l : List ℤ). length l ≡ n + 1) (sym e) (omega (arith, size, length-append old (z ∷ [])))

pub each_more : (old new : List ℤ) (z : ℤ) → new ≡ old ++ z ∷ [] → All IsValue old → IsValue z → All IsValue new
each_more old new z e each is = subst (All IsValue) (sym e) (All-append IsValue old (z ∷ []) each (All-cons IsValue z [] is (All-nil IsValue)))
