-- If there are cases, a path has a bound.
use Rattle.std.specs.Prelude.{◌==◌, nat_le, ◌≤ℤ◌}
use Rattle.std.proofs.Common.{◌≡◌, ◌⊎◌, inl, inr, ⊎_elim, ℕ, zero, suc, ◌+◌, ◌-◌, ◌<◌, ◌≤◌, List, length, ℤ, sym, subst, ◌∙◌, arith}
use Rattle.std.proofs.lemmas.Int.{ints, by_lt_z}
use Rattle.std.proofs.lemmas.Bool.{cases_Bool, cases_lt, cases_eq, eq-eqb, or_left, false≢true}
use Rattle.shunt_base.specs.declared.duals.Case.{Case}
use Rattle.shunt_instance.specs.defs.Instance.{Night}
use Rattle.shunt_blocks.specs.declared.records.Block.{Block}
use Rattle.shunt_prices.specs.defs.Limits.{case_at}
use Rattle.shunt_prices.specs.defs.Bounds.{case_sum, unparked_in, is_open, IsOpenAt, IsBoundOf, IsCasesBound}
use Rattle.shunt_prices.proofs.Signed.{round_up, bound_rises}

module _ (night : Night) (path : List Block) (cases : List Case) where
  -- the least bound of those open ones whose numbers are below n
  record IsLeast (n : ℕ) (bound : ℤ) : Type 0 where
    number : ℕ
    opens : IsOpenAt cases path number
    is : IsBoundOf (case_sum night path cases number) bound
    least : (k : ℕ) (other : ℤ) → k < n → IsOpenAt cases path k → IsBoundOf (case_sum night path cases k) other → bound ≤ℤ other

  abbrev Found : ℕ → Type 0
  Found n = (bound : ℤ) × IsLeast n bound

  abbrev NoneOpen : ℕ → Type 0
  NoneOpen n = (k : ℕ) → k < n → IsOpenAt cases path k → ⊥

  own : (k : ℕ) → (bound : ℤ) × IsBoundOf (case_sum night path cases k) bound
  own k = round_up (case_sum night path cases k)

  same_case : (n : ℕ) (other : ℤ) → IsBoundOf (case_sum night path cases n) other → (own n).0 ≤ℤ other
  same_case n other b = bound_rises (case_sum night path cases n) (case_sum night path cases n) (own n).0 other (omega (arith, ints)) (own n).1 b

  -- one more number
  shut : (n : ℕ) → (IsOpenAt cases path n → ⊥) → NoneOpen n ⊎ Found n → NoneOpen (suc n) ⊎ Found (suc n)
  shut n closed (inl none) = inl (λ k lt o. ⊎_elim (λ e. closed (subst (IsOpenAt cases path) e o)) (λ ne. none k (omega (arith, lt, below k n lt ne)) o) (cases_eq k n))
    where
      below : (k n : ℕ) → k < suc n → (k ≡ n → ⊥) → k < n
      below k n lt ne = ⊎_elim (λ less. less) (λ ge. absurd (ne (omega (arith, lt, ge)))) (cases_lt k n)
  shut n closed (inr f) = inr (
    f.0,
    record {
      number = f.1.number;
      opens = f.1.opens;
      is = f.1.is;
      least = λ k other lt o b. ⊎_elim (λ less. f.1.least k other less o b) (λ ge. let e : k ≡ n = omega (arith, lt, ge) in absurd (closed (subst (IsOpenAt cases path) e o)))
          (cases_lt k n);
    },
  )

  opened : (n : ℕ) → IsOpenAt cases path n → NoneOpen n ⊎ Found n → Found (suc n)
  opened n o (inl none) = (
    (own n).0,
    record {
      number = n;
      opens = o;
      is = (own n).1;
      least = λ k other lt p b. ⊎_elim (λ less. absurd (none k less p)) (λ ge. let e : k
          ≡ n = omega (arith, lt, ge) in same_case n other (subst (λ j. IsBoundOf (case_sum night path cases j) other) e b)) (cases_lt k n);
    },
  )
  opened n o (inr f) = ⊎_elim
      (λ le. (
        f.0,
        record {
          number = f.1.number;
          opens = f.1.opens;
          is = f.1.is;
          least = λ k other lt p b. ⊎_elim (λ less. f.1.least k other less p b) (λ ge. let e : k
              ≡ n = omega (arith, lt, ge) in omega (arith, ints, le, same_case n other (subst (λ j. IsBoundOf (case_sum night path cases j) other) e b))) (cases_lt k n);
        },
      ))
      (λ le. (
        (own n).0,
        record {
          number = n;
          opens = o;
          is = (own n).1;
          least = λ k other lt p b. ⊎_elim (λ less. omega (arith, ints, le, f.1.least k other less p b))
              (λ ge. let e : k ≡ n = omega (arith, lt, ge) in same_case n other (subst (λ j. IsBoundOf (case_sum night path cases j) other) e b)) (cases_lt k n);
        },
      ))
      (one_or_other f.0 (own n).0)
    where
      one_or_other : (y z : ℤ) → (y ≤ℤ z) ⊎ (z ≤ℤ y)
      one_or_other y z = by_lt_z z y (λ lt. inr (omega (arith, ints, lt))) (λ le. inl le)

  search_below : (n : ℕ) → n ≤ length cases → NoneOpen n ⊎ Found n
  search_below zero le = inl (λ k lt o. absurd (omega (arith, lt)))
  search_below (suc n) le =
      let rest = search_below n (omega (arith, le)) in
      ⊎_elim (λ e. inr (opened n (record { there = omega (arith, le); opens = e }) rest)) (λ e. shut n (λ o. false≢true (sym e ∙ o.opens)) rest) (cases_Bool (is_open cases path n))

  last_open : (n : ℕ) → length cases ≡ suc n → IsOpenAt cases path n
  last_open n e = record {
    there = omega (arith, e);
    opens = or_left (n + 1 == length cases) (nat_le (unparked_in path) (case_at cases n).to)
        (eq-eqb (n + 1) (length cases) (omega (arith, e)));
  }

  pub has_bound : 1 ≤ length cases → (bound : ℤ) × IsCasesBound night path cases bound
  has_bound some =
      let last = last_open (length cases - 1) (omega (arith, some)) in
      ⊎_elim
      (λ none. absurd (none (length cases - 1) (omega (arith, some)) last))
      (λ f. (f.0, record { number = f.1.number; opens = f.1.opens; is = f.1.is; least = λ k other o b. f.1.least k other o.there o b }))
      (search_below (length cases) (omega arith))
