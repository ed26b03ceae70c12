-- Moves by their words and ids, and what is found in lists.
use Rattle.std.proofs.Common.{◌≡◌, ⊎_elim, inl, inr, ℕ, ◌<◌, ◌^◌, Bool, true, false, not, ◌||◌, List, [], ◌∷◌, length, refl, sym, subst, ap, ◌∙◌, arith}
use Rattle.std.specs.Prelude.{◌==◌, Some, None, find, if◌then◌else◌}
use Rattle.std.specs.Str.Parse.{digits_value}
use Rattle.std.specs.Char.{is_ascii_digit}
use Rattle.std.proofs.lemmas.Bool.{cases_Bool, cond-true, cond-false, and_from, and_parts, eqb-true, eq-eqb, ltb-true, leb-true}
use Rattle.std.proofs.lemmas.Bool.Decides.{nat_tests}
use Rattle.std.proofs.lemmas.List.Sums.{AllPass-from_list_all}
use Rattle.std.proofs.lemmas.Option.{none-some}
use Rattle.shunt_lists.specs.defs.Members.{In}
use Rattle.shunt_base.specs.defs.Spelling.{IsDecimal, is_decimal_text, decimal_of}
use Rattle.shunt_base.proofs.Decimal.{small}
use Rattle.shunt_drivers.specs.defs.RosterFormat.{MoveName, is_one}
use Rattle.shunt_lists.proofs.Options.{some_same}
use Rattle.shunt_lists.proofs.Tests.{alike_is}

-- ---- names

is_alike : (a : Bool) → (if a then a else not a) ≡ true
is_alike true = refl
is_alike false = refl

pub one_tells : (a b : MoveName) → is_one a b ≡ true → a ≡ b
one_tells a b e =
    let both = and_parts (if a.0 then b.0 else not b.0) (a.1 == b.1) e in
    ap (λ (x : Bool). let p : MoveName = (x, a.1) in p) (alike_is a.0 b.0 both.0) ∙ ap (λ (y : ℕ). let p : MoveName = (b.0, y) in p) (eqb-true a.1 b.1 both.1)

one_itself : (a : MoveName) → is_one a a ≡ true
one_itself a = and_from (if a.0 then a.0 else not a.0) (a.1 == a.1) (is_alike a.0) (eq-eqb a.1 a.1 refl)

pub tells_one : (a b : MoveName) → a ≡ b → is_one a b ≡ true
tells_one a b e = subst (λ (x : MoveName). is_one a x ≡ true) e (one_itself a)

-- ---- what is found

pub found_in : {X : Type 0} (p : X → Bool) (xs : List X) (x : X) → find p xs ≡ Some x → In x xs × (p x ≡ true)
found_in p [] x e = absurd (none-some x e)
found_in p (y ∷ ys) x e = ⊎_elim here (later (λ rest. found_in p ys x rest)) (cases_Bool (p y))
  where
    here : p y ≡ true → In x (y ∷ ys) × (p x ≡ true)
    here t = let same = some_same y x (sym (cond-true (p y) (Some y) (find p ys) t) ∙ e) in (inl (sym same), subst (λ z. p z ≡ true) same t)

    later : (find p ys ≡ Some x → In x ys × (p x ≡ true)) → p y ≡ false → In x (y ∷ ys) × (p x ≡ true)
    later rest f = let r = rest (sym (cond-false (p y) (Some y) (find p ys) f) ∙ e) in (inr r.0, r.1)

-- one of a list that passes is found, or another one is
pub finds : {X : Type 0} (p : X → Bool) (xs : List X) (x : X) → In x xs → p x ≡ true → (y : X) × (find p xs ≡ Some y)
finds p [] x i t = absurd i
finds p (y ∷ ys) x (inl e) t = (y, cond-true (p y) (Some y) (find p ys) (subst (λ z. p z ≡ true) e t))
finds p (y ∷ ys) x (inr i) t =
    ⊎_elim (λ here. (y, cond-true (p y) (Some y) (find p ys) here)) (λ f. let r = finds p ys x i t in (r.0, cond-false (p y) (Some y) (find p ys) f ∙ r.1)) (cases_Bool (p y))

pub none_passes : {X : Type 0} (p : X → Bool) (xs : List X) (x : X) → find p xs ≡ None → In x xs → p x ≡ false
none_passes p xs x e i = ⊎_elim (λ t. let f = finds p xs x i t in absurd (none-some f.0 (sym e ∙ f.1))) (λ f. f) (cases_Bool (p x))

-- ---- numbers

lead : (a n : ℕ) → (not (a == 48) || n == 1) ≡ true → a ≡ 48 → n ≡ 1
lead a n e is = grind (arith, nat_tests)

spelled : (text : List ℕ) → is_decimal_text text ≡ true → IsDecimal text
spelled text e =
    let a = and_parts _ _ e in
    let b = and_parts _ _ a.0 in
    let c = and_parts _ _ b.0 in
    record { digits = AllPass-from_list_all is_ascii_digit text a.1; nonempty = ltb-true 0 (length text) c.0; short = leb-true (length text) 18 c.1; leading = lead _ _ b.1 }

-- a number that is read has 18 digits at most
pub number_small : (text : List ℕ) (x : ℕ) → decimal_of text ≡ Some x → x < 10 ^ 18
unfolding decimal_of
number_small text x e = by (is_decimal_text text) refl
  where
    by : (b : Bool) → is_decimal_text text ≡ b → x < 10 ^ 18
    by true t = let is : digits_value 10 text ≡ x = some_same (digits_value 10 text) x (sym (ap (λ (b : Bool). if b then Some (digits_value 10 text) else None) t) ∙ e) in omega
        (arith, small text (spelled text t), is)
    by false t = absurd (none-some x (sym (ap (λ (b : Bool). if b then Some (digits_value 10 text) else None) t) ∙ e))
