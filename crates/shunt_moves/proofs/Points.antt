-- Counts over the numbers below one that differ at one number.
use mir.Val.{bool_byte}
use Rattle.std.proofs.Common.{◌≡◌, ◌≢◌, ⊎_elim, ℕ, zero, suc, ◌+◌, ◌-◌, ◌<◌, ◌≤◌, ◌^◌, Bool, true, false, cond, List, [], ◌∷◌, length, set, refl, sym, ap, ◌∙◌, arith, replicate}
use Rattle.std.specs.Prelude.{◌==◌, nat_le, IsTrue}
use Rattle.std.proofs.lemmas.Bool.{cases_lt, cases_eq}
use Rattle.std.proofs.lemmas.Bool.Decides.{nat_tests}
use Rattle.shunt_lists.specs.defs.Below.{count_below}
use Rattle.shunt_moves.specs.defs.Kept.{at, is_within, IsCounted}
use Rattle.shunt_lists.proofs.CountsBelow.{count_below-same as same_count}
use Rattle.shunt_timeline.proofs.Steps.{byte_is}

abbrev flag : Bool → ℕ
flag b = cond b 1 0

-- two tests that differ at one number only
changed_at : (n u : ℕ) (p q : ℕ → Bool) → u < n → ((v : ℕ) → v ≢ u → p v ≡ q v) → count_below n q + flag (p u) ≡ count_below n p + flag (q u)
changed_at zero u p q lt e = absurd (omega arith)
changed_at (suc n) u p q lt e = ⊎_elim
    (λ low. let rest = changed_at n u p q low e in let last : flag (p n) ≡ flag (q n) = ap flag (e n (λ s. absurd (omega arith))) in omega arith)
    (λ high. let is : u ≡ n = omega arith in
    let rest = same_count n p q (λ v below. e v (λ s. absurd (omega arith))) in
    let old : flag (p u) ≡ flag (p n) = ap (λ v. flag (p v)) is in let new : flag (q u) ≡ flag (q n) = ap (λ v. flag (q v)) is in omega arith)
    (cases_lt u n)

pub at_set : (times : List ℕ) (u x : ℕ) → u < length times → at (set times u x) u ≡ x
at_set [] u x lt = absurd (omega arith)
at_set (y ∷ times) zero x lt = refl
at_set (y ∷ times) (suc u) x lt = at_set times u x (omega arith)

pub at_other : (times : List ℕ) (u v x : ℕ) → v ≢ u → at (set times u x) v ≡ at times v
at_other [] u v x ne = refl
at_other (y ∷ times) zero zero x ne = absurd (ne refl)
at_other (y ∷ times) zero (suc v) x ne = refl
at_other (y ∷ times) (suc u) zero x ne = refl
at_other (y ∷ times) (suc u) (suc v) x ne = at_other times u v x (λ e. ne (ap suc e))

flag_most : (b : Bool) → flag b ≤ 1
flag_most true = omega arith
flag_most false = omega arith

pub count_most : (n : ℕ) (p : ℕ → Bool) → count_below n p ≤ n
count_most zero p = omega arith
count_most (suc n) p = let rest = count_most n p in let one = flag_most (p n) in omega arith

-- a small count and a flag
pub small_sum : (count new most : ℕ) (b : Bool) → count ≤ most → most ≤ 160 → new ≡ bool_byte b → count + new < 2 ^ 32
small_sum count new most b few small e = let f : new ≡ flag b = e ∙ byte_is b in let one = flag_most b in omega arith

-- a count with one more flag and without another is the new count
pub record Change (count new old after : ℕ) : Type 0 where
  pub fits : count + new < 2 ^ 32
  pub below : old ≤ count + new
  pub is : count + new - old ≡ after

-- one of these has another number of blocks
module _ (times : List ℕ) (total bare twice u x : ℕ) (h : IsCounted times total bare twice) (within : u < total) (long : length times ≡ 160) where
  counts : (p : ℕ → Bool) → count_below total (λ v. p (at (set times u x) v)) + flag (p (at times u)) ≡ count_below total (λ v. p (at times v)) + flag (p x)
  counts p =
      let c = changed_at total u (λ v. p (at times v)) (λ v. p (at (set times u x) v)) within (λ v ne. ap p (sym (at_other times u v x ne))) in
      let e : flag (p (at (set times u x) u)) ≡ flag (p x) = ap (λ y. flag (p y)) (at_set times u x (omega (arith, h.few))) in
      omega arith

  -- the count that is kept, with the flags of the new number and of the old one
  kept : (p : ℕ → Bool) (count new old : ℕ) → count ≡ count_below total (λ v. p (at times v)) → new ≡ bool_byte (p x) → old ≡ bool_byte (p (at times u))
      → Change count new old (count_below total (λ v. p (at (set times u x) v)))
  kept p count new old is a b =
      let c = counts p in let f : new ≡ flag (p x) = a ∙ byte_is (p x) in let g : old ≡ flag (p (at times u)) = b ∙ byte_is (p (at times u)) in
      let most = count_most total (λ v. p (at times v)) in let one = flag_most (p x) in let few = h.few in
      record { fits = omega arith; below = omega arith; is = omega arith }

  pub put_bare : (new old : ℕ) → new ≡ bool_byte (x == 0) → old ≡ bool_byte (at times u == 0) → Change bare new old (count_below total (λ v. at (set times u x) v == 0))
  put_bare new old a b = kept (λ y. y == 0) bare new old h.bare_are a b

  pub put_twice : (new old : ℕ) → new ≡ bool_byte (nat_le 2 x) → old ≡ bool_byte (nat_le 2 (at times u))
      → Change twice new old (count_below total (λ v. nat_le 2 (at (set times u x) v)))
  put_twice new old a b = kept (λ y. nat_le 2 y) twice new old h.twice_are a b

pub none_counted : (total : ℕ) (times : List ℕ) → ((u : ℕ) → at times u ≡ 0) → count_below total (λ u. at times u == 0) ≡ total
none_counted zero times e = refl
none_counted (suc n) times e = let rest = none_counted n times e in let one : flag (at times n == 0) ≡ 1 = ap (λ x. flag (x == 0)) (e n) in omega arith

pub none_twice : (total : ℕ) (times : List ℕ) → ((u : ℕ) → at times u ≡ 0) → count_below total (λ u. nat_le 2 (at times u)) ≡ 0
none_twice zero times e = refl
none_twice (suc n) times e = let rest = none_twice n times e in let one : flag (nat_le 2 (at times n)) ≡ 0 = ap (λ x. flag (nat_le 2 x)) (e n) in omega arith

pub zeros : (n u : ℕ) → at (replicate n 0) u ≡ 0
zeros zero u = refl
zeros (suc n) zero = refl
zeros (suc n) (suc u) = zeros n u

-- ---- one more of a run

within_next : (from k u : ℕ) → u ≢ from + k → is_within from (k + 1) u ≡ is_within from k u
within_next from k u ne = grind (arith, nat_tests)

within_last : (from k u : ℕ) → u ≡ from + k → (is_within from (k + 1) u ≡ true) × (is_within from k u ≡ false)
within_last from k u e = (grind (arith, nat_tests), grind (arith, nat_tests))

module _ (was now new : List ℕ) (from k total : ℕ) (other : (v : ℕ) → v ≢ from + k → at new v ≡ at now v) where
  pub raise_next : ((u : ℕ) → u < total → at now u ≡ at was u + flag (is_within from k u)) → at new (from + k) ≡ at now (from + k) + 1 → (u : ℕ) → u < total
      → at new u ≡ at was u + flag (is_within from (k + 1) u)
  raise_next each here u lt = ⊎_elim
      (λ e. let w = within_last from k u e in let a : flag (is_within from (k + 1) u) ≡ 1 = ap flag w.0 in let b : flag (is_within from k u) ≡ 0 = ap flag w.1 in
      let p : at new u ≡ at new (from + k) = ap (at new) e in let q : at now u ≡ at now (from + k) = ap (at now) e in let h = each u lt in omega arith)
      (λ ne. let a : flag (is_within from (k + 1) u) ≡ flag (is_within from k u) = ap flag (within_next from k u ne) in let h = each u lt in let o = other u ne in omega arith)
      (cases_eq u (from + k))

  pub lower_next : ((u : ℕ) → u < total → at now u + flag (is_within from k u) ≡ at was u) → at new (from + k) + 1 ≡ at now (from + k) → (u : ℕ) → u < total
      → at new u + flag (is_within from (k + 1) u) ≡ at was u
  lower_next each here u lt = ⊎_elim
      (λ e. let w = within_last from k u e in let a : flag (is_within from (k + 1) u) ≡ 1 = ap flag w.0 in let b : flag (is_within from k u) ≡ 0 = ap flag w.1 in
      let p : at new u ≡ at new (from + k) = ap (at new) e in let q : at now u ≡ at now (from + k) = ap (at now) e in let h = each u lt in omega arith)
      (λ ne. let a : flag (is_within from (k + 1) u) ≡ flag (is_within from k u) = ap flag (within_next from k u ne) in let h = each u lt in let o = other u ne in omega arith)
      (cases_eq u (from + k))

-- who is to be lowered next is in some block still
pub some_now : (was now : List ℕ) (from k n total : ℕ) → ((u : ℕ) → u < total → at now u + flag (is_within from k u) ≡ at was u)
    → ((u : ℕ) → IsTrue (is_within from n u) → 1 ≤ at was u) → from + n ≤ total → k < n → 1 ≤ at now (from + k)
some_now was now from k n total each some within lt =
    let w = within_last from k (from + k) refl in let b : flag (is_within from k (from + k)) ≡ 0 = ap flag w.1 in
    let old = some (from + k) (grind (arith, nat_tests)) in let h = each (from + k) (omega arith) in omega arith

pub one_less : (x y z : ℕ) → 1 ≤ y → x ≡ z - 1 → z ≡ y → x + 1 ≡ y
one_less x y z some a b = omega arith
