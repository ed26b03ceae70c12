-- The spellings of numbers are what is printed of them.
use Rattle.std.specs.Prelude.{Option, Some, pos, negsuc}
use Rattle.std.proofs.Common.{suc, [], ◌∷◌, ℤ, ◌∙◌, drop, ◌≡◌, ℕ, ◌+◌, ◌*◌, ◌-◌, ◌^◌, ◌<◌, List, length, get_or, take, sym, ap, arith, IsTrue, inl, inr}
use Rattle.std.specs.Char.{digit_value, is_ascii_digit}
use Rattle.std.specs.Fmt.{decimal, signed_decimal}
use Rattle.std.specs.Int.{IsInRange}
use Rattle.std.specs.Str.Parse.{digits_value}
use Rattle.std.proofs.lemmas.Bool.{cases_lt}
use Rattle.std.proofs.lemmas.List.Elements.{All-from_get_or}
use Rattle.std.proofs.lemmas.Bool.Decides.{nat_tests}
use Rattle.std.proofs.lemmas.Int.{ints}
use Rattle.std.proofs.lemmas.Int.Digits.{digits_value_more}
use Rattle.std.proofs.lemmas.Str.Parse.{IsNumeralModel, numerals_by_value, tells_by_index, digits_value_short, digits_value-take-le}
use Rattle.std.proofs.lemmas.Fmt.{digits_decimal, digits_value-decimal, decimal-digits_value, decimal_nonempty, length-decimal-le, first_decimal, decimal_digit}
use Rattle.shunt_base.specs.defs.Spelling.{IsDecimal, IsSigned}

abbrev EachDigit : List ℕ → Type 0
EachDigit ds = (i : ℕ) → i < length ds → IsInRange 48 57 (get_or ds i 0)

own : IsNumeralModel EachDigit (digits_value 10)
own = numerals_by_value _ tells_by_index

in_range : (b : ℕ) → IsTrue (is_ascii_digit b) → IsInRange 48 57 b
in_range b is = grind (arith, nat_tests)

is_digit : (b : ℕ) → IsInRange 48 57 b → IsTrue (is_ascii_digit b)
is_digit b is = grind (arith, nat_tests)

pub digit_in : (bs : List ℕ) → IsDecimal bs → EachDigit bs
digit_in bs d i lt = in_range (get_or bs i 0) (d.digits i 0 lt)

value_of_digit : (b : ℕ) → IsInRange 48 57 b → digit_value b ≡ b - 48
value_of_digit b is = grind (arith, nat_tests)

pub small : (bs : List ℕ) → IsDecimal bs → digits_value 10 bs < 10 ^ 18
small bs d = digits_value_short own bs 18 (digit_in bs d) d.short

-- one more digit
pub next : (bs : List ℕ) (i : ℕ) → IsDecimal bs → i < length bs → digits_value 10 (take (i + 1) bs) ≡ 10 * digits_value 10 (take i bs) + (get_or bs i 0 - 48)
next bs i d lt =
    let digit = value_of_digit (get_or bs i 0) (digit_in bs d i lt) in
    omega (arith, digits_value_more 10 bs i lt, digit)

pub next_small : (bs : List ℕ) (i : ℕ) → IsDecimal bs → i < length bs → 10 * digits_value 10 (take i bs) + (get_or bs i 0 - 48) < 10 ^ 18
next_small bs i d lt = omega (arith, next bs i d lt, digits_value-take-le 10 bs (i + 1) (omega arith), small bs d)

-- a spelling is what is printed of its value
pub printed : (bs : List ℕ) → IsDecimal bs → bs ≡ decimal (digits_value 10 bs)
printed bs d = let le = small bs d in sym (decimal-digits_value own bs (digit_in bs d) d.nonempty d.leading (omega arith))

leading : (n : ℕ) → n < 10 ^ 18 → get_or (decimal n) 0 0 ≡ 48 → length (decimal n) ≡ 1
leading n lt first = elim (cases_lt 0 n) [
  | inl above ↦ absurd (omega (arith, first_decimal n above (omega arith)))
  | inr zero ↦ ap length (decimal_digit n (omega arith))
]

-- what is printed of a number below 10 ^ 18 is a spelling
pub spelled : (n : ℕ) → n < 10 ^ 18 → IsDecimal (decimal n)
spelled n lt = record {
  digits = All-from_get_or (λ b. IsTrue (is_ascii_digit b)) (decimal n) 0 (λ i le. is_digit _ (digits_decimal own n (omega arith) i le));
  nonempty = decimal_nonempty n (omega arith);
  short = length-decimal-le 18 n (omega arith) lt (omega arith);
  leading = leading n lt;
}

-- and its value is that number
pub value_again : (n : ℕ) → n < 10 ^ 18 → digits_value 10 (decimal n) ≡ n
value_again n lt = digits_value-decimal own n (omega arith)

-- a minus in front is none of a number that isn't below 0
minus : (rest : List ℕ) (r : Option ℤ) → ((n : ℕ) → n + 1 < 10 ^ 18 → rest ≡ decimal (n + 1) → r ≡ Some (negsuc n)) → (z : ℤ) → IsSigned z → 45 ∷ rest ≡ signed_decimal z
    → r ≡ Some z
minus rest r only (pos n) s e =
    let d = spelled n (omega (arith, ints, s.1)) in
    let digit = digit_in (decimal n) d 0 d.nonempty in
    absurd (omega (arith, digit.0, ap (λ (l : List ℕ). get_or l 0 0) e))
minus rest r only (negsuc n) s e =
    let tail : rest ≡ decimal (suc n) = cc in
    only n (omega (arith, ints, s.0)) (tail ∙ ap decimal (let f : suc n ≡ n + 1 = omega arith in f))

pub minus_at : (bytes : List ℕ) (r : Option ℤ) → 0 < length bytes → get_or bytes 0 0 ≡ 45 → ((n : ℕ) → n + 1 < 10 ^ 18 → drop 1 bytes ≡ decimal (n + 1) → r ≡ Some (negsuc n))
    → (z : ℤ) → IsSigned z → bytes ≡ signed_decimal z → r ≡ Some z
minus_at [] r some first only z s e = absurd (omega arith)
minus_at (b ∷ bytes) r some first only z s e = minus bytes r only z s (ap (λ (x : ℕ). x ∷ bytes) (sym first) ∙ e)
