-- What is read of fields that were spelled, and what the tests of fields tell.
use Rattle.std.proofs.Common.{◌≡◌, ℕ, ℤ, pos, negsuc, suc, ◌^◌, ◌<◌, ◌≤◌, Bool, true, false, not, ◌||◌, List, length, refl, sym, ap, ◌∙◌, arith, ⊎_elim}
use Rattle.std.specs.Prelude.{◌==◌, Option, Some, None, option_map, slice_index, if◌then◌else◌}
use Rattle.std.specs.Option.{is_some, unwrap_or}
use Rattle.std.specs.Fmt.{decimal, signed_decimal}
use Rattle.std.specs.Char.{is_ascii_digit}
use Rattle.std.specs.Str.Parse.{digits_value}
use Rattle.std.proofs.lemmas.Bool.{lt-ltb, le-leb, cases_Bool, and_from, or_left, cond-false, ne_eqb, cond-true}
use Rattle.std.proofs.lemmas.Int.{ints}
use Rattle.std.proofs.lemmas.Bool.Decides.{nat_tests}
use Rattle.std.proofs.lemmas.List.Sums.{list_all-from_AllPass}
use Rattle.shunt_base.specs.defs.Spelling.{IsDecimal, IsSigned, is_decimal_text, decimal_of, negative_of, signed_of, minute_of, is_minute_text, minute_value}
use Rattle.shunt_base.proofs.Decimal.{spelled, value_again, digit_in}
use Rattle.shunt_base.proofs.Minutes as minutes
use Rattle.shunt_rows.specs.defs.Fields.{is_within}

-- what is found is there
pub there : {X : Type 0} (nothing : X) (o : Option X) → is_some o ≡ true → o ≡ Some (unwrap_or o nothing)
there nothing None e = absurd cc
there nothing (Some y) e = refl

-- the test of a range
pub within : (least most x : ℕ) → is_within least most x ≡ true → (least ≤ x) × (x ≤ most)
unfolding is_within
within least most x e = grind (arith, nat_tests)

pub in_range : (least most x : ℕ) → least ≤ x → x ≤ most → is_within least most x ≡ true
unfolding is_within
in_range least most x le ge = and_from _ _ (le-leb least x le) (le-leb x most ge)

lead : (a n : ℕ) → (a ≡ 48 → n ≡ 1) → (not (a == 48) || n == 1) ≡ true
lead a n h = ⊎_elim (λ t. let m = h (eq_of a t) in grind (arith, nat_tests)) (λ f. or_left _ _ (ap not f)) (cases_Bool (a == 48))
  where
    eq_of : (a : ℕ) → (a == 48) ≡ true → a ≡ 48
    eq_of a t = grind (arith, nat_tests)

decimal_test : (bytes : List ℕ) → IsDecimal bytes → is_decimal_text bytes ≡ true
decimal_test bytes is = and_from _ _ (and_from _ _ (and_from _ _ (lt-ltb 0 (length bytes) is.nonempty) (le-leb (length bytes) 18 is.short)) (lead _ _ is.leading))
    (list_all-from_AllPass is_ascii_digit bytes is.digits)

-- a number is read from what is printed of it
pub number_again : (x : ℕ) → x < 10 ^ 18 → decimal_of (decimal x) ≡ Some x
unfolding decimal_of
number_again x lt = cond-true (is_decimal_text (decimal x)) (Some (digits_value 10 (decimal x))) None (decimal_test (decimal x) (spelled x lt))
    ∙ ap (λ y. Some y) (value_again x lt)

-- a number from the one to the other is read from what is printed of it
pub record IsRead (least most x : ℕ) : Type 0 where
  pub there : is_some (decimal_of (decimal x)) ≡ true
  pub value : unwrap_or (decimal_of (decimal x)) 0 ≡ x
  pub range : is_within least most (unwrap_or (decimal_of (decimal x)) 0) ≡ true

pub number_read : (least most x : ℕ) → least ≤ x → x ≤ most → most < 10 ^ 18 → IsRead least most x
number_read least most x le ge small =
    let again = number_again x (omega (arith, ge, small)) in
    let same = ap (λ o. unwrap_or o 0) again in
    record { there = ap is_some again; value = same; range = ap (is_within least most) same ∙ in_range least most x le ge }

-- a minute that is read is one of two days
pub minute_small : (text : List ℕ) (m : ℕ) → minute_of text ≡ Some m → m < 2880
unfolding minute_of
minute_small text m e = by (is_minute_text text) refl
  where
    by : (b : Bool) → is_minute_text text ≡ b → m < 2880
    by true t = let is : minute_value text ≡ m = cc in omega (arith, (minutes.spelled text t).0, is)
    by false t = let is : None ≡ Some m = sym (ap (λ (b : Bool). if b then Some (minute_value text) else None) t) ∙ e in cc

-- a signed number is read from what is printed of it
pub signed_again : (z : ℤ) → IsSigned z → signed_of (signed_decimal z) ≡ Some z
unfolding signed_of
signed_again (pos n) is =
    let lt : n < 10 ^ 18 = omega (arith, ints, is.1) in
    let d = spelled n lt in
    let digit = digit_in (decimal n) d 0 d.nonempty in
    cond-false (slice_index (decimal n) 0 == 45) _ _ (ne_eqb (slice_index (decimal n) 0) 45 (λ e. omega (arith, digit.0, e))) ∙ ap (option_map pos) (number_again n lt)
signed_again (negsuc n) is = ap negative_of (number_again (suc n) (omega (arith, ints, is.0)))
