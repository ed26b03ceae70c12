-- The order of two keys by their fields.
use Rattle.std.specs.Ordering.{nat_cmp, bool_cmp, ordering_then, is_lt, is_le}
use Rattle.std.specs.declared.cmp.Ordering.{Ordering}
use Rattle.std.specs.declared.cmp.Ordering.TheVariants.{Less, Equal, Greater}
use Rattle.std.proofs.Common.{◌≡◌, ⊎_elim, ℕ, ◌<◌, ◌≤◌, Bool, true, false, refl, sym, ap, ◌∙◌, arith}
use Rattle.std.proofs.lemmas.Bool.{cases_lt, false≢true}
use Rattle.shunt_base.specs.declared.keys.EventKey.{EventKey}
use Rattle.shunt_base.specs.defs.Keys.{key_cmp}
use Rattle.shunt_base.proofs.Ranks.{made_key}
use Rattle.shunt_lists.proofs.Orders.{nat_less as less, nat_greater as greater, nat_equal as even}

-- the one comes first
pub record Ordered (k l : EventKey) : Type 0 where
  pub less : key_cmp k l ≡ Less
  pub more : key_cmp l k ≡ Greater

-- what comes first decides, and what is even leaves it to the rest
first_less : (a b : ℕ) (rest : Ordering) → a < b → ordering_then (nat_cmp a b) rest ≡ Less
first_less a b rest lt = ap (λ (o : Ordering). ordering_then o rest) (less a b lt)

first_more : (a b : ℕ) (rest : Ordering) → b < a → ordering_then (nat_cmp a b) rest ≡ Greater
first_more a b rest lt = ap (λ (o : Ordering). ordering_then o rest) (greater a b lt)

first_even : (a b : ℕ) (rest : Ordering) → a ≡ b → ordering_then (nat_cmp a b) rest ≡ rest
first_even a b rest e = ap (λ (o : Ordering). ordering_then o rest) (even a b e)

flags : (e : Bool) (rest : Ordering) → ordering_then (bool_cmp e e) rest ≡ rest
flags true rest = refl
flags false rest = refl

abbrev after_minute : Bool → Bool → ℕ → ℕ → ℕ → ℕ → ℕ → ℕ → Ordering
after_minute d e t u p q i j = ordering_then (bool_cmp d e) (ordering_then (nat_cmp t u) (ordering_then (nat_cmp p q) (nat_cmp i j)))

pub by_minute : (m n : ℕ) (d e : Bool) (t u p q i j : ℕ) → m < n → Ordered (made_key m d t p i) (made_key n e u q j)
by_minute m n d e t u p q i j lt = record { less = first_less m n (after_minute d e t u p q i j) lt; more = first_more n m (after_minute e d u t q p j i) lt }

same_minute : (m n : ℕ) (d e : Bool) (t u p q i j : ℕ) → m ≡ n → after_minute d e t u p q i j ≡ Less → after_minute e d u t q p j i ≡ Greater
    → Ordered (made_key m d t p i) (made_key n e u q j)
same_minute m n d e t u p q i j same h k = record {
  less = first_even m n (after_minute d e t u p q i j) same
      ∙ h;
  more = first_even n m (after_minute e d u t q p j i) (sym same) ∙ k;
}

-- of one minute, the lesser train
pub by_train : (m n : ℕ) (e : Bool) (t u p q i j : ℕ) → m ≤ n → t < u → Ordered (made_key m e t p i) (made_key n e u q j)
by_train m n e t u p q i j le lt = ⊎_elim
    (λ before. by_minute m n e e t u p q i j before)
    (λ ge. let same : m ≡ n = omega (arith, le, ge) in
    same_minute m n e e t u p q i j same (flags e _ ∙ first_less t u _ lt) (flags e _ ∙ first_more u t _ lt))
    (cases_lt m n)

-- of one train, the lesser place
pub by_place : (m n : ℕ) (e : Bool) (t u p q i j : ℕ) → m ≡ n → t ≡ u → p < q → Ordered (made_key m e t p i) (made_key n e u q j)
by_place m n e t u p q i j same train lt =
    same_minute m n e e t u p q i j same
    (flags e _ ∙ first_even t u _ train ∙ first_less p q (nat_cmp i j) lt)
    (flags e _ ∙ first_even u t _ (sym train) ∙ first_more q p (nat_cmp j i) lt)

-- of one minute, leaves
pub by_kind : (m n : ℕ) (t u p q i j : ℕ) → m ≤ n → Ordered (made_key m false t p i) (made_key n true u q j)
by_kind m n t u p q i j le = ⊎_elim
    (λ before. by_minute m n false true t u p q i j before)
    (λ ge. let same : m ≡ n = omega (arith, le, ge) in same_minute m n false true t u p q i j same refl refl)
    (cases_lt m n)

-- a key is as great as itself
pub same_key : (m : ℕ) (e : Bool) (t p i : ℕ) → key_cmp (made_key m e t p i) (made_key m e t p i) ≡ Equal
same_key m e t p i = first_even m m (after_minute e e t t p p i i) refl ∙ flags e _ ∙ first_even t t _ refl ∙ first_even p p (nat_cmp i i) refl ∙ even i i refl

pub itself : (m : ℕ) (e : Bool) (t p i : ℕ) → is_le (key_cmp (made_key m e t p i) (made_key m e t p i)) ≡ true
itself m e t p i = ap is_le (same_key m e t p i)

pub not_before_itself : (m : ℕ) (e : Bool) (t p i : ℕ) → key_cmp (made_key m e t p i) (made_key m e t p i) ≡ Less → ⊥
not_before_itself m e t p i k = false≢true (ap is_lt (sym (same_key m e t p i) ∙ k))

pub less_not_more : Less ≡ Greater → ⊥
less_not_more e = false≢true (ap is_lt (sym e))
