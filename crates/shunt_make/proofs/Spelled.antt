-- Names of a letter and a number.
use Rattle.std.proofs.Common.{◌≡◌, ℕ, ◌+◌, ◌^◌, ◌<◌, ◌≤◌, length, map, sym, ◌∙◌, arith}
use Rattle.std.specs.Prelude.{IsTrue}
use Rattle.std.specs.Char.{is_ascii_digit}
use Rattle.std.specs.Fmt.{decimal}
use Rattle.std.specs.List.{range_with_len}
use Rattle.std.proofs.lemmas.Bool.Decides.{nat_tests}
use Rattle.std.proofs.lemmas.Fmt.{decimal_injective, length-decimal-le}
use Rattle.std.proofs.lemmas.List.Elements.{All-cons, All-weaker}
use Rattle.std.proofs.lemmas.List.FromFn.{length-map-range_with_len, get_or-map-range_with_len}
use Rattle.shunt_lists.specs.defs.Members.{AreDistinct}
use Rattle.shunt_base.specs.defs.Spelling.{IsName, is_name_byte}
use Rattle.shunt_base.proofs.Decimal.{spelled}
use Rattle.shunt_make.specs.defs.Made.{numbered}

digit_name : (b : ℕ) → IsTrue (is_ascii_digit b) → IsTrue (is_name_byte b)
digit_name b is = grind (arith, nat_tests)

pub named : (letter n : ℕ) → IsTrue (is_name_byte letter) → n < 2 ^ 32 → IsName (numbered letter n)
named letter n is small =
    let short : length (decimal n) ≤ 10 = length-decimal-le 10 n (omega arith) (omega arith) (omega arith) in (
      omega arith,
      omega arith,
      All-cons (λ b. IsTrue (is_name_byte b)) letter (decimal n) is (All-weaker (λ b. IsTrue (is_ascii_digit b)) (λ b. IsTrue (is_name_byte b)) digit_name (decimal n)
          (spelled n (omega arith)).digits),
    )

-- names of two numbers differ
pub apart : (letter i j : ℕ) → i < j → j < 1000 → numbered letter i ≡ numbered letter j → ⊥
apart letter i j lt small e =
    let same : decimal i ≡ decimal j = cc in
    omega (arith, decimal_injective i j (omega arith) (omega arith) same)

-- what differs at any two numbers is distinct over some of them
pub distinct_over : {X : Type 0} (f : ℕ → X) (a n : ℕ) → ((i j : ℕ) → i < j → j < a + n → f i ≡ f j → ⊥) → AreDistinct (map f (range_with_len a n))
distinct_over f a n differ i j d lt le e =
    let below : j < n = omega (arith, length-map-range_with_len f a n) in
    let first = get_or-map-range_with_len f a n i (a + i) d (omega arith) (omega arith) in
    let second = get_or-map-range_with_len f a n j (a + j) d below (omega arith) in
    differ (a + i) (a + j) (omega arith) (omega arith) (sym first ∙ e ∙ second)
