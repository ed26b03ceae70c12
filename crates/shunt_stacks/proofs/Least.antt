-- Sums have a least bound over the cases that are open.
use Rattle.std.specs.Prelude.{◌==◌, nat_le, slice_index_or, ◌≤ℤ◌}
use Rattle.std.proofs.Common.{◌≡◌, ◌⊎◌, inl, inr, ⊎_elim, ℕ, zero, suc, ◌+◌, ◌-◌, ◌<◌, ◌≤◌, List, length, ℤ, pos, sym, subst, ◌∙◌, arith}
use Rattle.std.proofs.lemmas.Int.{ints, by_lt_z}
use Rattle.std.proofs.lemmas.Bool.{cases_Bool, cases_lt, eq-eqb, or_left, false≢true}
use Rattle.shunt_base.specs.declared.duals.Case.{Case}
use Rattle.shunt_blocks.specs.declared.records.Block.{Block}
use Rattle.shunt_prices.specs.defs.Limits.{case_at}
use Rattle.shunt_prices.specs.defs.Bounds.{unparked_in, is_open, IsOpenAt, IsBoundOf}
use Rattle.shunt_prices.proofs.Signed.{round_up, bound_rises}
use Rattle.shunt_stacks.specs.defs.Bounds.{IsLeastBound}

module _ (cases : List Case) (path : List Block) (sums : List ℤ) where
  abbrev sum_of : ℕ → ℤ
  sum_of k = slice_index_or sums k (pos 0)

  -- the least bound of those open ones whose numbers are below n
  record IsLeast (n : ℕ) (bound : ℤ) : Type 0 where
    number : ℕ
    opens : IsOpenAt cases path number
    is : IsBoundOf (sum_of number) bound
    least : (k : ℕ) (other : ℤ) → k < n → IsOpenAt cases path k → IsBoundOf (sum_of k) other → bound ≤ℤ other

  abbrev Found : ℕ → Type 0
  Found n = (bound : ℤ) × IsLeast n bound

  abbrev NoneOpen : ℕ → Type 0
  NoneOpen n = (k : ℕ) → k < n → IsOpenAt cases path k → ⊥

  own : (k : ℕ) → (bound : ℤ) × IsBoundOf (sum_of k) bound
  own k = round_up (sum_of k)

  same_case : (k n : ℕ) (bound other : ℤ) → k ≡ n → IsBoundOf (sum_of n) bound → IsBoundOf (sum_of k) other → bound ≤ℤ other
  same_case k n bound other e b x = bound_rises (sum_of n) (sum_of n) bound other (omega (arith, ints)) b (subst (λ (j : ℕ). IsBoundOf (sum_of j) other) e x)

  last_one : (k n : ℕ) → k < suc n → n ≤ k → k ≡ n
  last_one k n lt ge = omega (arith, lt, ge)

  shut : (n : ℕ) → (IsOpenAt cases path n → ⊥) → NoneOpen n ⊎ Found n → NoneOpen (suc n) ⊎ Found (suc n)
  shut n closed (inl none) = inl (λ k lt o. ⊎_elim (λ less. none k less o) (λ ge. closed (subst (IsOpenAt cases path) (last_one k n lt ge) o)) (cases_lt k n))
  shut n closed (inr f) = inr (
    f.0,
    record {
      number = f.1.number;
      opens = f.1.opens;
      is = f.1.is;
      least = λ k other lt o b. ⊎_elim (λ less. f.1.least k other less o b) (λ ge. absurd (closed (subst (IsOpenAt cases path) (last_one k n lt ge) o))) (cases_lt k n);
    },
  )

  opened : (n : ℕ) → IsOpenAt cases path n → NoneOpen n ⊎ Found n → Found (suc n)
  opened n o (inl none) = (
    (own n).0,
    record {
      number = n;
      opens = o;
      is = (own n).1;
      least = λ k other lt p b. ⊎_elim (λ less. absurd (none k less p)) (λ ge. same_case k n (own n).0 other (last_one k n lt ge) (own n).1 b) (cases_lt k n);
    },
  )
  opened n o (inr f) = by_lt_z (own n).0 f.0
      (λ lower. (
        (own n).0,
        record {
          number = n;
          opens = o;
          is = (own n).1;
          least = λ k other lt p b. ⊎_elim (λ less. omega (arith, ints, lower, f.1.least k other less p b)) (λ ge. same_case k n (own n).0 other (last_one k n lt ge) (own n).1 b)
              (cases_lt k n);
        },
      ))
      (λ le. (
        f.0,
        record {
          number = f.1.number;
          opens = f.1.opens;
          is = f.1.is;
          least = λ k other lt p b. ⊎_elim (λ less. f.1.least k other less p b) (λ ge. omega (arith, ints, le, same_case k n (own n).0 other (last_one k n lt ge) (own n).1 b))
              (cases_lt k n);
        },
      ))

  search_below : (n : ℕ) → n ≤ length cases → NoneOpen n ⊎ Found n
  search_below zero le = inl (λ k lt o. absurd (omega (arith, lt)))
  search_below (suc n) le =
      let rest = search_below n (omega (arith, le)) in
      ⊎_elim (λ e. inr (opened n (record { there = omega (arith, le); opens = e }) rest)) (λ e. shut n (λ o. false≢true (sym e ∙ o.opens)) rest) (cases_Bool (is_open cases path n))

  last_open : (n : ℕ) → length cases ≡ suc n → IsOpenAt cases path n
  last_open n e = record {
    there = omega (arith, e);
    opens = or_left (n + 1 == length cases) (nat_le (unparked_in path) (case_at cases n).to)
        (eq-eqb (n + 1) (length cases) (omega (arith, e)));
  }

  pub least_there : 1 ≤ length cases → (bound : ℤ) × IsLeastBound cases path sums bound
  least_there some =
      let last = last_open (length cases - 1) (omega (arith, some)) in
      ⊎_elim
      (λ none. absurd (none (length cases - 1) (omega (arith, some)) last))
      (λ f. (f.0, record { number = f.1.number; opens = f.1.opens; is = f.1.is; least = λ k other o b. f.1.least k other o.there o b }))
      (search_below (length cases) (omega arith))
