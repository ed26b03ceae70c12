-- The least bound of one sum or two, one for each case.
use Rattle.std.specs.Prelude.{IsTrue, ◌↔◌, ◌≤ℤ◌, cond, is_none, slice_index_or, Bool, true, false}
use Rattle.std.proofs.Common.{◌≡◌, ◌⊎◌, inl, inr, ⊎_elim, ℕ, zero, suc, ◌+◌, ◌≤◌, List, [], ◌∷◌, ◌++◌, length, ℤ, pos, sym, subst, arith}
use Rattle.std.proofs.lemmas.Int.{ints}
use Rattle.std.proofs.lemmas.List.Sums.{sum_by-append}
use Rattle.shunt_base.specs.declared.duals.Case.{Case}
use Rattle.shunt_instance.specs.defs.Instance.{Night}
use Rattle.shunt_blocks.specs.declared.records.Block.{Block}
use Rattle.shunt_prices.specs.defs.Limits.{case_at}
use Rattle.shunt_prices.specs.defs.Bounds.{IsBoundOf, IsOpenAt, unparked_in}
use Rattle.shunt_stacks.specs.defs.Bounds.{IsLeastBound, IsStackSum, IsStackBound, IsChoiceSum, IsChoiceBound}
use Rattle.shunt_checker.proofs.Looked.{against}
use Rattle.shunt_lists.proofs.Tests.{either_test, last_test, few_test}
use Rattle.shunt_prices.proofs.Counts.{one_bound}

-- it is the least bound over the opened cases of what is their sum
pub record IsLeast (cases : List Case) (path : List Block) (Is : ℕ → ℤ → Type 0) (bound : ℤ) : Type 0 where
  pub sums : List ℤ
  pub are : (k : ℕ) → IsOpenAt cases path k → Is k (slice_index_or sums k (pos 0))
  pub least : IsLeastBound cases path sums bound

-- the first of two cases is opened
abbrev pub OpensFirst : List Case → List Block → Type 0
OpensFirst cases path = (2 ≤ length cases) × (unparked_in path ≤ (case_at cases 0).to)

module _ (cases : List Case) (path : List Block) (Is : ℕ → ℤ → Type 0) where
  -- the first of two cases that isn't the last is opened where it has few unparked blocks
  few_there : IsOpenAt cases path 0 → 2 ≤ length cases → unparked_in path ≤ (case_at cases 0).to
  few_there opened two = ⊎_elim
      (λ (e : 0 + 1 ≡ length cases). absurd (omega (arith, e, two)))
      (λ (le : unparked_in path ≤ (case_at cases 0).to). le)
      (either_test (0 + 1) (length cases) (unparked_in path) (case_at cases 0).to opened.opens)

  opens_last : (last : ℕ) → last + 1 ≡ length cases → IsOpenAt cases path last
  opens_last last e = record { there = omega (arith, e); opens = last_test (last + 1) (length cases) (unparked_in path) (case_at cases last).to e }

  pub alone : (last : ℕ) (z bound : ℤ) → length cases ≤ 2 → last + 1 ≡ length cases → (OpensFirst cases path → ⊥) → Is last z → IsBoundOf z bound → IsLeast cases path Is bound
  alone zero z bound few e shut is b = record { sums = z ∷ []; are = are; least = record { number = 0; opens = opens_last 0 e; is = b; least = least } }
    where
      are : (k : ℕ) → IsOpenAt cases path k → Is k (slice_index_or (z ∷ []) k (pos 0))
      are zero opened = is
      are (suc k) opened = absurd (let there = opened.there in omega (arith, there, e))

      least : (k : ℕ) (other : ℤ) → IsOpenAt cases path k → IsBoundOf (slice_index_or (z ∷ []) k (pos 0)) other → bound ≤ℤ other
      least zero other opened h = one_bound z bound other b h
      least (suc k) other opened h = absurd (let there = opened.there in omega (arith, there, e))
  alone (suc zero) z bound few e shut is b = record { sums = pos 0 ∷ z ∷ []; are = are; least = record { number = 1; opens = opens_last 1 e; is = b; least = least } }
    where
      are : (k : ℕ) → IsOpenAt cases path k → Is k (slice_index_or (pos 0 ∷ z ∷ []) k (pos 0))
      are zero opened = absurd (shut (omega (arith, e), few_there opened (omega (arith, e))))
      are (suc zero) opened = is
      are (suc (suc k)) opened = absurd (let there = opened.there in omega (arith, there, e))

      least : (k : ℕ) (other : ℤ) → IsOpenAt cases path k → IsBoundOf (slice_index_or (pos 0 ∷ z ∷ []) k (pos 0)) other → bound ≤ℤ other
      least zero other opened h = absurd (shut (omega (arith, e), few_there opened (omega (arith, e))))
      least (suc zero) other opened h = one_bound z bound other b h
      least (suc (suc k)) other opened h = absurd (let there = opened.there in omega (arith, there, e))
  alone (suc (suc n)) z bound few e shut is b = absurd (omega (arith, few, e))

  module _ (first second one other least : ℤ) (few : length cases ≤ 2) (opens : OpensFirst cases path) (is_first : Is 0 first) (is_second : Is 1 second)
      (bound_first : IsBoundOf first one) (bound_second : IsBoundOf second other)
      (under_first : least ≤ℤ one) (under_second : least ≤ℤ other) where
    abbrev pair : List ℤ
    pair = first ∷ second ∷ []

    pair_are : (k : ℕ) → IsOpenAt cases path k → Is k (slice_index_or pair k (pos 0))
    pair_are zero opened = is_first
    pair_are (suc zero) opened = is_second
    pair_are (suc (suc k)) opened = absurd (let there = opened.there in omega (arith, there, few))

    pair_least : (k : ℕ) (z : ℤ) → IsOpenAt cases path k → IsBoundOf (slice_index_or pair k (pos 0)) z → least ≤ℤ z
    pair_least zero z opened h = let le = one_bound first one z bound_first h in omega (arith, ints, le, under_first)
    pair_least (suc zero) z opened h = let le = one_bound second other z bound_second h in omega (arith, ints, le, under_second)
    pair_least (suc (suc k)) z opened h = absurd (let there = opened.there in omega (arith, there, few))

    two : length cases ≡ 2
    two = let many = opens.0 in omega (arith, many, few)

    pub both : (least ≡ one) ⊎ (least ≡ other) → IsLeast cases path Is least
    both (inl e) = record {
      sums = pair;
      are = pair_are;
      least = record {
        number = 0;
        opens = record { there = omega (arith, two); opens = few_test (0 + 1) (length cases) (unparked_in path) (case_at cases 0).to opens.1 };
        is = subst (IsBoundOf first) (sym e) bound_first;
        least = pair_least;
      };
    }
    both (inr e) = record {
      sums = pair;
      are = pair_are;
      least = record {
        number = 1;
        opens = opens_last 1 (omega (arith, two));
        is = subst (IsBoundOf second)
            (sym e) bound_second;
        least = pair_least;
      };
    }

pub as_stack_bound : (night : Night) (path : List Block) (cases : List Case) (bound : ℤ) → IsLeast cases path (IsStackSum night path cases) bound
    → IsStackBound night path cases bound
as_stack_bound night path cases bound h = record { sums = h.sums; are = h.are; least = h.least }

pub as_choice_bound : (night : Night) (path : List Block) (b : Block) (cases : List Case) (bound : ℤ) → IsLeast cases (path ++ b ∷ []) (IsChoiceSum night path b cases) bound
    → IsChoiceBound night path b cases bound
as_choice_bound night path b cases bound h = record { sums = h.sums; are = h.are; least = h.least }

-- by so many unparked blocks
pub opens_by : (cases : List Case) (path : List Block) (unparked : ℕ) (b : Bool) → unparked ≡ unparked_in path → IsTrue b ↔ ((2 ≤ length cases) × (unparked ≤ (case_at cases 0).to))
    → b ≡ true → OpensFirst cases path
opens_by cases path unparked b e test t = let h = test.0 t in (h.0, subst (λ (n : ℕ). n ≤ (case_at cases 0).to) e h.1)

pub shut_by : (cases : List Case) (path : List Block) (unparked : ℕ) (b : Bool) → unparked ≡ unparked_in path → IsTrue b ↔ ((2 ≤ length cases) × (unparked ≤ (case_at cases 0).to))
    → b ≡ false → OpensFirst cases path → ⊥
shut_by cases path unparked b e test f h = against b ((2 ≤ length cases) × (unparked ≤ (case_at cases 0).to)) test f (h.0, subst (λ (n : ℕ). n ≤ (case_at cases 0).to) (sym e) h.1)

-- how many blocks of a path with one more are unparked
pub unparked_more : (path : List Block) (b : Block) (u more : ℕ) → u ≡ unparked_in path → more ≡ u + cond (is_none b.park) 1 0 → more ≡ unparked_in (path ++ b ∷ [])
unparked_more path b u more eu em = omega (arith, eu, em, sum_by-append (λ (x : Block). cond (is_none x.park) 1 0) path (b ∷ []))

pub opens_end : (cases : List Case) (path : List Block) (last : ℕ) → last + 1 ≡ length cases → IsOpenAt cases path last
opens_end cases path last e = record { there = omega (arith, e); opens = last_test (last + 1) (length cases) (unparked_in path) (case_at cases last).to e }

pub opens_zero : (cases : List Case) (path : List Block) → OpensFirst cases path → IsOpenAt cases path 0
opens_zero cases path h = record { there = (let two = h.0 in omega (arith, two)); opens = few_test (0 + 1) (length cases) (unparked_in path) (case_at cases 0).to h.1 }
