-- Names, numbers, words and sides are plain fields, and a side's letter and a move's word are read back.
use Rattle.std.proofs.Common.{◌≡◌, ℕ, ℤ, pos, negsuc, suc, ◌^◌, ◌<◌, ◌≤◌, Bool, true, false, List, [], ◌∷◌, ◌++◌, length, map, ◌+◌, ◌/◌, ◌%◌, refl, arith, IsTrue}
use Rattle.std.specs.Prelude.{All, codes, nat_lt, Some}
use Rattle.std.specs.List.{list_all, AllByRecursion}
use Rattle.std.specs.Fmt.{decimal, signed_decimal}
use Rattle.std.specs.Char.{is_ascii_digit}
use Rattle.std.proofs.lemmas.Bool.{ltb-true, and_parts}
use Rattle.std.proofs.lemmas.Bool.Decides.{nat_tests}
use Rattle.std.proofs.lemmas.Int.{ints}
use Rattle.shunt_lists.proofs.Lists.{by_places}
use Rattle.shunt_base.specs.declared.ids.Side.{Side}
use Rattle.shunt_base.specs.declared.ids.Side.TheVariants.{A, B}
use Rattle.shunt_base.specs.defs.Spelling.{IsName, IsSigned, is_name_byte, minute_text}
use Rattle.shunt_base.proofs.Decimal.{spelled}
use Rattle.shunt_rows.specs.defs.Records.{is_plain, IsPlainField, IsPlainRow, ArePlain}
use Rattle.shunt_rows.specs.defs.Fields.{side_of, enters_of}
use Rattle.shunt_rows.specs.defs.Written.{side_text, move_word}

abbrev ArePlainBytes : List ℕ → Type 0
ArePlainBytes field = AllByRecursion (λ b. IsTrue (is_plain b)) field

name_byte : (b : ℕ) → IsTrue (is_name_byte b) → IsTrue (is_plain b)
name_byte b is = cc

digit_byte : (b : ℕ) → IsTrue (is_ascii_digit b) → IsTrue (is_plain b)
digit_byte b is = grind (arith, nat_tests)

pub plain_name : (name : List ℕ) → IsName name → IsPlainField name
plain_name name is = (is.0, by_places (λ b. IsTrue (is_name_byte b)) (λ b. IsTrue (is_plain b)) name name_byte is.2)

pub plain_number : (x : ℕ) → x < 10 ^ 18 → IsPlainField (decimal x)
plain_number x lt = let d = spelled x lt in (d.nonempty, by_places (λ b. IsTrue (is_ascii_digit b)) (λ b. IsTrue (is_plain b)) (decimal x) digit_byte d.digits)

plain_bytes : (field : List ℕ) → list_all is_plain field ≡ true → ArePlainBytes field
plain_bytes [] e = tt
plain_bytes (b ∷ field) e = let p = and_parts (is_plain b) (list_all is_plain field) e in (p.0, plain_bytes field p.1)

pub plain_word : (word : List ℕ) → nat_lt 0 (length word) ≡ true → list_all is_plain word ≡ true → IsPlainField word
plain_word word some e = (ltb-true 0 (length word) some, plain_bytes word e)

pub plain_side : (q : Side) → IsPlainField (side_text q)
plain_side A = plain_word (codes "A") refl refl
plain_side B = plain_word (codes "B") refl refl

pub side_read : (q : Side) → side_of (side_text q) ≡ Some q
unfolding side_of
side_read A = refl
side_read B = refl

pub side_short : (q : Side) → length (side_text q) ≤ 1
side_short A = omega arith
side_short B = omega arith

pub plain_move : (enters : Bool) → IsPlainField (move_word enters)
plain_move true = plain_word (codes "enter") refl refl
plain_move false = plain_word (codes "leave") refl refl

pub word_read : (enters : Bool) → enters_of (move_word enters) ≡ Some enters
unfolding enters_of
word_read true = refl
word_read false = refl

pub word_short : (enters : Bool) → length (move_word enters) ≤ 5
word_short true = omega arith
word_short false = omega arith

digit_plain : (d : ℕ) → d < 10 → IsTrue (is_plain (48 + d))
digit_plain d lt = grind (arith, nat_tests)

pub plain_minute : (m : ℕ) → m < 2880 → IsPlainField (minute_text m)
plain_minute m small = (
  omega arith,
  (
    digit_plain (m / 60 / 10) (omega arith),
    (
      digit_plain (m / 60 % 10) (omega arith),
      (refl, (digit_plain (m % 60 / 10) (omega arith), (digit_plain (m % 60 % 10) (omega arith), tt))),
    ),
  ),
)

-- plain rows of two lists
pub plain_more : (rows more : List (List (List ℕ))) → ArePlain rows → ArePlain more → ArePlain (rows ++ more)
plain_more [] more p q = q
plain_more (row ∷ rows) more p q = (p.0, plain_more rows more p.1 q)

-- plain rows of a list of things
pub plain_map : {X : Type 0} (P : X → Type 0) (row : X → List (List ℕ)) (xs : List X) → ((x : X) → P x → IsPlainRow (row x)) → All P xs → ArePlain (map row xs)
plain_map P row [] h all = tt
plain_map P row (x ∷ xs) h all = (h x (all 0 x (omega arith)), plain_map P row xs h (λ k d lt. all (suc k) d (omega arith)))

-- a signed number
pub plain_signed : (z : ℤ) → IsSigned z → IsPlainField (signed_decimal z)
plain_signed (pos n) is = plain_number n (omega (arith, ints, is.1))
plain_signed (negsuc n) is =
    let digits = plain_number (suc n) (omega (arith, ints, is.0)) in
    (omega (arith, digits.0), (refl, digits.1))
