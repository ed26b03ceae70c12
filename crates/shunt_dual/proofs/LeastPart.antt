-- The least part of some shapes around a pair, from those of fewer.
use Rattle.std.proofs.Common.{◌≡◌, ◌⊎◌, inl, inr, ⊎_elim, ℕ, ◌+◌, ◌*◌, ◌/◌, ◌<◌, ◌≤◌, sym, ap, subst, arith}
use Rattle.std.proofs.lemmas.Bool.{cases_lt}
use Rattle.shunt_instance.specs.defs.Instance.{Night}
use Rattle.shunt_blocks.specs.declared.records.Shape.{Shape}
use Rattle.std.proofs.lemmas.Nat.{le-div}
use Rattle.std.proofs.Math.Nat.{div-mul-le_self}
use Rattle.shunt_blocks.specs.defs.Blocks.{IsOption}
use Rattle.shunt_blocks.specs.defs.Costs.{IsCheapest, cost_with}
use Rattle.shunt_dual.specs.defs.Shares.{part_with}
use Rattle.shunt_dual.specs.defs.Around.{shape_around, IsPart, IsLeastPart, FromBack, FromSome}

pub div_rises : (a b n : ℕ) → 0 < n → a ≤ b → a / n ≤ b / n
div_rises a b n some le = le-div (a / n) b n some (omega (arith, div-mul-le_self a n))

-- the cheapest option gives the least part
pub cheapest_part : (night : Night) (s : Shape) (cost : ℕ) → 0 < s.n → IsCheapest night s cost → IsPart night s (1000 * cost / s.n)
cheapest_part night s cost some h = record {
  option = h.option;
  is_option = h.is_option;
  is = ap (λ (c : ℕ). 1000 * c / s.n) h.is;
  least = λ o is. div_rises (1000 * cost) (1000 * cost_with night s o) s.n some (omega (arith, h.least o is));
}

pub alone : (night : Night) (u v b m x : ℕ) (asked : ℕ → ℕ → Type 0) → asked b m → IsPart night (shape_around night u v b m) x
    → ((c k : ℕ) → asked c k → (c ≡ b) × (k ≡ m)) → IsLeastPart night u v asked x
alone night u v b m x asked one part only = record {
  back = b;
  n = m;
  one = one;
  part = part;
  lowest = λ c k o is option.
      let at = only c k is in
      let P : ℕ → ℕ → Type 0 = λ d j. IsOption night (shape_around night u v d j) o → x ≤ part_with night (shape_around night u v d j) o in
      subst (λ (d : ℕ). P d k) (sym at.0) (subst (λ (j : ℕ). P b j) (sym at.1) (part.least o)) option;
}

pub joined : (night : Night) (u v x y z : ℕ) (some more all : ℕ → ℕ → Type 0) → IsLeastPart night u v some x → IsLeastPart night u v more y
    → ((b m : ℕ) → some b m → all b m) → ((b m : ℕ) → more b m → all b m) → ((b m : ℕ) → all b m → some b m ⊎ more b m)
    → z ≤ x → z ≤ y → (z ≡ x) ⊎ (z ≡ y) → IsLeastPart night u v all z
joined night u v x y z some more all h k to_left to_right from zx zy (inl e) = record {
  back = h.back;
  n = h.n;
  one = to_left h.back h.n h.one;
  part = subst (λ (w : ℕ). IsPart night (shape_around night u v h.back h.n) w) (sym e) h.part;
  lowest = λ b m other a o. ⊎_elim (λ s. omega (arith, h.lowest b m other s o)) (λ t. omega (arith, k.lowest b m other t o)) (from b m a);
}
joined night u v x y z some more all h k to_left to_right from zx zy (inr e) = record {
  back = k.back;
  n = k.n;
  one = to_right k.back k.n k.one;
  part = subst (λ (w : ℕ). IsPart night (shape_around night u v k.back k.n) w) (sym e) k.part;
  lowest = λ b m other a o. ⊎_elim (λ s. omega (arith, h.lowest b m other s o)) (λ t. omega (arith, k.lowest b m other t o)) (from b m a);
}

-- one that ends with the pair itself
pub first_part : (night : Night) (u v back n x : ℕ) → n ≡ back + 1 → IsPart night (shape_around night u v back n) x → IsLeastPart night u v (FromBack back 1) x
first_part night u v back n x e part =
    alone night u v back n x (FromBack back 1)
    (record { same = omega arith; no_less = omega arith; holds = omega arith; ends = omega arith }) part
    (λ c k a. (omega (arith, a.same, a.no_less), omega (arith, a.same, a.no_less, a.holds, a.ends)))

-- one that ends with one pair more
pub next_part : (night : Night) (u v back k n x y z : ℕ) → n ≡ back + k + 1 → IsLeastPart night u v (FromBack back k) x → IsPart night (shape_around night u v back n) y
    → z ≤ x → z ≤ y → (z ≡ x) ⊎ (z ≡ y) → IsLeastPart night u v (FromBack back (k + 1)) z
next_part night u v back k n x y z e h part zx zy one =
    joined night u v x y z (FromBack back k) (λ b m. (b ≡ back) × (m ≡ n)) (FromBack back (k + 1)) h
    (alone night u v back n y (λ b m. (b ≡ back) × (m ≡ n)) (omega arith, omega arith) part (λ c j a. a))
    (λ b m a. record { same = a.same; no_less = a.no_less; holds = a.holds; ends = omega (arith, a.ends) })
    (λ b m a. record { same = omega (arith, a.0); no_less = omega (arith, a.0); holds = omega (arith, a.0, a.1); ends = omega (arith, a.0, a.1) })
    (λ b m a. ⊎_elim
    (λ lt. inl (record { same = a.same; no_less = a.no_less; holds = a.holds; ends = omega arith }))
    (λ ge. inr (omega (arith, a.same, a.no_less), omega (arith, a.same, a.no_less, a.ends)))
    (cases_lt m (b + k + 1)))
    zx zy one

-- those that begin at one pair more
pub first_row : (night : Night) (u v after x : ℕ) → IsLeastPart night u v (FromBack 0 after) x → IsLeastPart night u v (FromSome 1 after) x
first_row night u v after x h = record {
  back = h.back;
  n = h.n;
  one = record { begins = omega (arith, h.one.same); holds = h.one.holds; ends = h.one.ends };
  part = h.part;
  lowest = λ b m other a o. h.lowest b m other (record { same = omega (arith, a.begins); no_less = omega arith; holds = a.holds; ends = a.ends }) o;
}

pub next_row : (night : Night) (u v back after x y z : ℕ) → IsLeastPart night u v (FromSome back after) x → IsLeastPart night u v (FromBack back after) y
    → z ≤ x → z ≤ y → (z ≡ x) ⊎ (z ≡ y) → IsLeastPart night u v (FromSome (back + 1) after) z
next_row night u v back after x y z h k zx zy one =
    joined night u v x y z (FromSome back after) (FromBack back after) (FromSome (back + 1) after) h k
    (λ b m a. record { begins = omega (arith, a.begins); holds = a.holds; ends = a.ends })
    (λ b m a. record { begins = omega (arith, a.same); holds = a.holds; ends = a.ends })
    (λ b m a. ⊎_elim
    (λ lt. inl (record { begins = lt; holds = a.holds; ends = a.ends }))
    (λ ge. inr (record { same = omega (arith, a.begins); no_less = ge; holds = a.holds; ends = a.ends }))
    (cases_lt b back))
    zx zy one
