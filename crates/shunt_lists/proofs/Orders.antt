-- Comparisons of numbers.
use Rattle.std.proofs.Common.{ℕ, arith, ◌≡◌, ◌<◌, false, refl, Ordering, leb}
use Rattle.std.specs.Ordering.{nat_cmp, is_lt, ordering_then, is_le}
use Rattle.std.specs.declared.cmp.Ordering.TheVariants.{Less, Greater, Equal}
use Rattle.std.proofs.lemmas.Bool.Decides.{nat_tests}

pub nat_less : (a b : ℕ) → a < b → nat_cmp a b ≡ Less
nat_less a b lt = grind (arith, nat_tests)

pub nat_greater : (a b : ℕ) → b < a → nat_cmp a b ≡ Greater
nat_greater a b lt = grind (arith, nat_tests)

pub nat_equal : (a b : ℕ) → a ≡ b → nat_cmp a b ≡ Equal
nat_equal a b e = grind (arith, nat_tests)

pub first_less : (o rest : Ordering) → is_lt (ordering_then o rest) ≡ false → is_lt o ≡ false
first_less Less rest e = e
first_less Equal rest e = refl
first_less Greater rest e = refl

pub le_is : (a b : ℕ) → is_le (nat_cmp a b) ≡ leb a b
le_is a b = grind (arith, nat_tests)
