-- The least bound of cases, from those before a number to one more.
use Rattle.std.specs.Prelude.{◌≤ℤ◌}
use Rattle.std.proofs.Common.{◌≡◌, ◌⊎◌, inl, inr, ⊎_elim, ℕ, ◌+◌, ◌<◌, ◌≤◌, List, length, ℤ, subst, arith}
use Rattle.std.proofs.lemmas.Int.{ints}
use Rattle.std.proofs.lemmas.Bool.{cases_lt}
use Rattle.shunt_lists.proofs.Tests.{either_test, last_test, few_test}
use Rattle.shunt_base.specs.declared.duals.Case.{Case}
use Rattle.shunt_instance.specs.defs.Instance.{Night}
use Rattle.shunt_blocks.specs.declared.records.Block.{Block}
use Rattle.shunt_prices.specs.defs.Limits.{case_at}
use Rattle.shunt_prices.specs.defs.Bounds.{IsBoundOf, IsOpenAt, IsCasesBound, IsLeastBelow, case_sum, unparked_in}
use Rattle.shunt_prices.proofs.Counts.{one_bound}

module _ (night : Night) (path : List Block) (cases : List Case) (k : ℕ) (least : ℤ) where
  pub closed : (case_at cases k).to < unparked_in path → IsLeastBelow night path cases k least → IsLeastBelow night path cases (k + 1) least
  closed many h = record {
    number = h.number;
    opens = h.opens;
    is = h.is;
    least = λ j other one opens is. h.least j other (narrow j one opens) opens is;
  }
    where
      narrow : (j : ℕ) → (j < k + 1) ⊎ (j + 1 ≡ length cases) → IsOpenAt cases path j → (j < k) ⊎ (j + 1 ≡ length cases)
      narrow j (inr e) opens = inr e
      narrow j (inl lt) opens = ⊎_elim
          (λ (less : j < k). inl less)
          (λ (past : k ≤ j). ⊎_elim
          (λ (e : j + 1 ≡ length cases). inr e)
          (λ (le : unparked_in path ≤ (case_at cases j).to).
          let same : j ≡ k = omega arith in
          let le_k : unparked_in path ≤ (case_at cases k).to = subst (λ (i : ℕ). unparked_in path ≤ (case_at cases i).to) same le in
          absurd (omega (arith, le_k, many)))
          (either_test (j + 1) (length cases) (unparked_in path) (case_at cases j).to opens.opens))
          (cases_lt j k)

  module _ (bound : ℤ) (here : IsBoundOf (case_sum night path cases k) bound) (h : IsLeastBelow night path cases k least) where
    at_most : (new : ℤ) → new ≤ℤ bound → new ≤ℤ least → (j : ℕ) (other : ℤ) → (j < k + 1) ⊎ (j + 1 ≡ length cases) → IsOpenAt cases path j
        → IsBoundOf (case_sum night path cases j) other → new ≤ℤ other
    at_most new le low j other (inr e) opens is = omega (arith, ints, low, h.least j other (inr e) opens is)
    at_most new le low j other (inl lt) opens is = ⊎_elim
        (λ (less : j < k). omega (arith, ints, low, h.least j other (inl less) opens is))
        (λ (past : k ≤ j).
        let same : j ≡ k = omega arith in
        omega (arith, ints, le, one_bound (case_sum night path cases k) bound other here (subst (λ (i : ℕ). IsBoundOf (case_sum night path cases i) other) same is)))
        (cases_lt j k)

    pub taken : k < length cases → unparked_in path ≤ (case_at cases k).to → bound ≤ℤ least → IsLeastBelow night path cases (k + 1) bound
    taken lt few le = record {
      number = k;
      opens = record { there = lt; opens = few_test (k + 1) (length cases) (unparked_in path) (case_at cases k).to few };
      is = here;
      least = at_most bound (omega (arith, ints)) le;
    }

    pub kept : least ≤ℤ bound → IsLeastBelow night path cases (k + 1) least
    kept le = record { number = h.number; opens = h.opens; is = h.is; least = at_most least le (omega (arith, ints)) }

pub last_first : (night : Night) (path : List Block) (cases : List Case) (last : ℕ) (bound : ℤ) → last + 1 ≡ length cases → IsBoundOf (case_sum night path cases last) bound
    → IsLeastBelow night path cases 0 bound
last_first night path cases last bound e is = record {
  number = last;
  opens = record { there = omega arith; opens = last_test (last + 1) (length cases) (unparked_in path) (case_at cases last).to e };
  is = is;
  least = λ j other one opens h. ⊎_elim
      (λ (lt : j < 0). absurd (omega arith))
      (λ (f : j + 1 ≡ length cases).
      let same : j ≡ last = omega arith in
      one_bound (case_sum night path cases last) bound other is (subst (λ (i : ℕ). IsBoundOf (case_sum night path cases i) other) same h))
      one;
}

pub all_of : (night : Night) (path : List Block) (cases : List Case) (k : ℕ) (bound : ℤ) → length cases ≤ k + 1 → IsLeastBelow night path cases k bound
    → IsCasesBound night path cases bound
all_of night path cases k bound le h = record {
  number = h.number;
  opens = h.opens;
  is = h.is;
  least = λ j other opens is. h.least j other (⊎_elim (λ (lt : j < k). inl lt) (λ (past : k ≤ j). let e : j + 1 ≡ length cases = omega (arith, opens.there) in inr e)
      (cases_lt j k)) opens is;
}
