-- Minutes and their spellings.
use Rattle.std.specs.Prelude.{Option, Some, None, IfSome, if◌then◌else◌}
use Rattle.std.proofs.Common.{◌≡◌, ⊎_elim, ℕ, ◌+◌, ◌*◌, ◌-◌, ◌/◌, ◌%◌, ◌<◌, ◌≤◌, Bool, true, false, List, [], ◌∷◌, refl, sym, ap, ◌∙◌, arith}
use Rattle.std.proofs.lemmas.Bool.{cases_Bool, true≢false}
use Rattle.std.proofs.lemmas.Bool.Decides.{nat_tests}
use Rattle.shunt_base.specs.defs.Spelling.{minute_text, minute_of, is_minute_text, minute_value}

-- a spelling is read as its minute
pub read_again : (m : ℕ) → m < 2880 → minute_of (minute_text m) ≡ Some m
unfolding minute_of
read_again m small =
    let h : m / 60 < 48 = omega arith in
    let a : m / 60 / 10 < 10 = omega arith in
    let b : m / 60 % 10 < 10 = omega arith in
    let d : m % 60 / 10 < 6 = omega arith in
    let e : m % 60 % 10 < 10 = omega arith in
    let hours : 10 * (m / 60 / 10) + m / 60 % 10 ≡ m / 60 = omega arith in
    let minutes : 10 * (m % 60 / 10) + m % 60 % 10 ≡ m % 60 = omega arith in
    let whole : 60 * (m / 60) + m % 60 ≡ m = omega arith in
    grind (arith, nat_tests)

five : (a b c d e p q r s : ℕ) → a ≡ p → b ≡ q → c ≡ 58 → d ≡ r → e ≡ s → (a ∷ b ∷ c ∷ d ∷ e ∷ []) ≡ (p ∷ q ∷ 58 ∷ r ∷ s ∷ [])
five a b c d e p q r s f g h i j = cc

-- the fields of a minute from its digits
digits : (h n x y u v : ℕ) → x < 10 → y < 10 → v < 10 → n < 60 → h ≡ 10 * x + y → n ≡ 10 * u + v
    → let m = 60 * h + n in (m / 60 / 10 ≡ x) × (m / 60 % 10 ≡ y) × (m % 60 / 10 ≡ u) × (m % 60 % 10 ≡ v)
digits h n x y u v sx sy sv sn eh en =
    let hours : (60 * h + n) / 60 ≡ h = omega arith in
    let minutes : (60 * h + n) % 60 ≡ n = omega arith in
    (omega arith, omega arith, omega arith, omega arith)

low : (a : ℕ) → a < 58 → a - 48 < 10
low a small = omega arith

back : (a q : ℕ) → 48 ≤ a → q ≡ a - 48 → a ≡ 48 + q
back a q least e = omega arith

within : (h n : ℕ) → h < 48 → n < 60 → 60 * h + n < 2880
within h n hours minutes = omega arith

-- what is read as a minute is its spelling
pub spelled : (bytes : List ℕ) → is_minute_text bytes ≡ true → (minute_value bytes < 2880) × (bytes ≡ minute_text (minute_value bytes))
spelled (a ∷ b ∷ c ∷ d ∷ e ∷ []) t =
    let p : (48 ≤ a) × (a < 58) = grind (arith, nat_tests) in
    let q : (48 ≤ b) × (b < 58) = grind (arith, nat_tests) in
    let r : (48 ≤ d) × (d < 58) = grind (arith, nat_tests) in
    let s : (48 ≤ e) × (e < 58) = grind (arith, nat_tests) in
    let colon : c ≡ 58 = grind (arith, nat_tests) in
    let hours : 10 * (a - 48) + (b - 48) < 48 = grind (arith, nat_tests) in
    let minutes : 10 * (d - 48) + (e - 48) < 60 = grind (arith, nat_tests) in
    let ds = digits (10 * (a - 48) + (b - 48)) (10 * (d - 48) + (e - 48)) (a - 48) (b - 48) (d - 48) (e - 48) (low a p.1) (low b q.1) (low e s.1) minutes refl refl in
    (within _ _ hours minutes, five a b c d e _ _ _ _ (back a _ p.0 ds.0) (back b _ q.0 ds.1) colon (back d _ r.0 ds.2) (back e _ s.0 ds.3))
spelled [] t = absurd (true≢false (sym t))
spelled (a ∷ []) t = absurd (true≢false (sym t))
spelled (a ∷ b ∷ []) t = absurd (true≢false (sym t))
spelled (a ∷ b ∷ c ∷ []) t = absurd (true≢false (sym t))
spelled (a ∷ b ∷ c ∷ d ∷ []) t = absurd (true≢false (sym t))
spelled (a ∷ b ∷ c ∷ d ∷ e ∷ f ∷ rest) t = absurd (true≢false (sym t))

none_of : (bytes : List ℕ) → is_minute_text bytes ≡ false → minute_of bytes ≡ None
unfolding minute_of
none_of bytes f = ap (λ (b : Bool). if b then Some (minute_value bytes) else None) f

-- who answers exactly the spelled minutes answers what is read
pub minute_is : (bytes : List ℕ) (r : Option ℕ) → IfSome r (λ m. (m < 2880) × (bytes ≡ minute_text m)) → ((m : ℕ) → m < 2880 → bytes ≡ minute_text m → r ≡ Some m)
    → r ≡ minute_of bytes
minute_is bytes (Some m) some only = sym (ap minute_of some.1 ∙ read_again m some.0)
minute_is bytes None some only =
    ⊎_elim (λ t. let s = spelled bytes t in let e : None ≡ Some (minute_value bytes) = only (minute_value bytes) s.0 s.1 in cc)
    (λ f. sym (none_of bytes f)) (cases_Bool (is_minute_text bytes))
