-- Bounds below a number, by the sums of the cases that are open.
use Rattle.std.specs.Prelude.{IsTrue, ◌↔◌, ◌≤ℤ◌, ◌<ℤ◌, ◌*ℤ◌, cond, is_none, slice_index_or, Bool, true, false}
use Rattle.std.proofs.Common.{◌≡◌, ◌⊎◌, ⊎_elim, ℕ, ◌+◌, ◌*◌, ◌<◌, ◌≤◌, List, [], ◌∷◌, ◌++◌, length, ℤ, pos, ◌+ℤ◌, refl, sym, subst, ◌∙◌, arith}
use Rattle.std.proofs.lemmas.Int.{ints}
use Rattle.std.proofs.lemmas.Bool.{cases_eq}
use Rattle.std.proofs.lemmas.List.Sums.{sum_by-append}
use Rattle.shunt_base.specs.declared.duals.Case.{Case}
use Rattle.shunt_instance.specs.defs.Instance.{Night}
use Rattle.shunt_blocks.specs.declared.records.Block.{Block}
use Rattle.shunt_choices.specs.defs.Choices.{Choice as PathChoice, longer_by, chosen}
use Rattle.shunt_prices.specs.defs.Limits.{case_at}
use Rattle.shunt_prices.specs.defs.Bounds.{IsBoundOf, case_sum, unparked_in}
use Rattle.shunt_stacks.specs.defs.Bounds.{IsChoiceSum, IsChoiceBound}
use Rattle.shunt_proof.specs.declared.records.Version.{Version}
use Rattle.shunt_proof.specs.declared.records.Version.TheVariants.{Prices, Stacks}
use Rattle.shunt_proof.specs.defs.Versions.{IsStepBoundIn}
use Rattle.shunt_checker.specs.defs.NodeFaults.{IsStepLow}
use Rattle.shunt_checker.specs.defs.Lows.{IsLowIn, IsLowBy}
use Rattle.shunt_lists.proofs.Tests.{either_test, last_test, few_test}

low_sum : (sum bound : ℤ) (L : ℕ) → sum ≤ℤ (pos 1000 *ℤ bound) → bound <ℤ pos L → (sum +ℤ pos 1000) ≤ℤ pos (1000 * L)
low_sum sum bound L enough low = omega (arith, ints, enough, low)

low_bound : (sum bound : ℤ) (L : ℕ) → (pos 1000 *ℤ bound) <ℤ (sum +ℤ pos 1000) → (sum +ℤ pos 1000) ≤ℤ pos (1000 * L) → bound <ℤ pos L
low_bound sum bound L least low = omega (arith, ints, least, low)

lower : (a b : ℤ) (L : ℕ) → a ≤ℤ b → b <ℤ pos L → a <ℤ pos L
lower a b L le lt = omega (arith, ints, le, lt)

-- what the laws say of the bounds of choices
pub record StepLaws (night : Night) : Type 0 where
  pub rounds : (sum : ℤ) → (b : ℤ) × IsBoundOf sum b
  pub choice : (path : List Block) (b : Block) (cases : List Case) (bound : ℤ) → IsStepBoundIn Stacks night path
      (path ++ b ∷ []) cases bound ↔ IsChoiceBound night path b cases bound
  pub one_sum : (path : List Block) (b : Block) (cases : List Case) (k : ℕ) (x y : ℤ) → IsChoiceSum night path b cases k x → IsChoiceSum night path b cases k y → x ≡ y

pub step_laws : (night : Night) → ((sum : ℤ) → (b : ℤ) × IsBoundOf sum b)
    → ((path : List Block) (b : Block) (cases : List Case) (bound : ℤ) → IsStepBoundIn Stacks night path (path ++ b ∷ []) cases bound ↔ IsChoiceBound night path b cases bound)
    → ((path : List Block) (b : Block) (cases : List Case) (k : ℕ) (x y : ℤ) → IsChoiceSum night path b cases k x → IsChoiceSum night path b cases k y → x ≡ y) → StepLaws night
step_laws night rounds choice one_sum = record { rounds = rounds; choice = choice; one_sum = one_sum }

module _ (night : Night) (laws : StepLaws night) where
  -- a bound below L is that of an open case whose sum is so low
  pub low_by : (version : Version) (path : List Block) (cases : List Case) (L : ℕ) (c : PathChoice) (bound : ℤ) → IsStepLow version night path (longer_by path c) cases L bound
      → IsLowBy version night path cases L c
  low_by Prices path cases L c bound h =
      let sum = case_sum night (longer_by path c) cases h.is.number in
      record { number = h.is.number; is = record { opens = h.is.opens; sum = sum; is = refl; low = low_sum sum bound L h.is.is.enough h.low } }
  low_by Stacks path cases L c bound h =
      let b : IsChoiceBound night path (chosen (length path + 1) c) cases bound = (laws.choice path (chosen (length path + 1) c) cases bound).0 h.is in
      let sum = slice_index_or b.sums b.least.number (pos 0) in
      record {
        number = b.least.number;
        is = record {
          opens = b.least.opens;
          sum = sum;
          is = b.are b.least.number b.least.opens;
          low = low_sum sum bound L b.least.is.enough
              h.low;
        };
      }

  pub low_from : (version : Version) (path : List Block) (cases : List Case) (L : ℕ) (c : PathChoice) (bound : ℤ) → IsLowBy version night path cases L c
      → IsStepBoundIn version night path (longer_by path c) cases bound
      → IsStepLow version night path (longer_by path c) cases L bound
  low_from Prices path cases L c bound h is =
      let sum = case_sum night (longer_by path c) cases h.number in
      let other = laws.rounds sum in
      let low : (sum +ℤ pos 1000) ≤ℤ pos (1000 * L) = subst (λ (z : ℤ). (z +ℤ pos 1000) ≤ℤ pos (1000 * L)) h.is.is h.is.low in
      record { is = is; low = lower bound other.0 L (is.least h.number other.0 h.is.opens other.1) (low_bound sum other.0 L other.1.least low) }
  low_from Stacks path cases L c bound h is =
      let b : IsChoiceBound night path (chosen (length path + 1) c) cases bound = (laws.choice path (chosen (length path + 1) c) cases bound).0 is in
      let sum = slice_index_or b.sums h.number (pos 0) in
      let same : h.is.sum ≡ sum = laws.one_sum path (chosen (length path + 1) c) cases h.number h.is.sum sum h.is.is (b.are h.number h.is.opens) in
      let other = laws.rounds sum in
      let low : (sum +ℤ pos 1000) ≤ℤ pos (1000 * L) = subst (λ (z : ℤ). (z +ℤ pos 1000) ≤ℤ pos (1000 * L)) same h.is.low in
      record { is = is; low = lower bound other.0 L (b.least.least h.number other.0 h.is.opens other.1) (low_bound sum other.0 L other.1.least low) }

module _ (night : Night) (path : List Block) (cases : List Case) (L : ℕ) (c : PathChoice) where
  -- ---- case by case

  pub unparked_is : (u more : ℕ) → u ≡ unparked_in path → more ≡ u + cond (is_none c.option) 1 0 → more ≡ unparked_in (longer_by path c)
  unparked_is u more eu em = omega (arith, eu, em, sum_by-append (λ (b : Block). cond (is_none b.park) 1 0) path (chosen (length path + 1) c ∷ []))

  module _ (k more : ℕ) (is : more ≡ unparked_in (longer_by path c)) where
    pub shut : (b : Bool) → IsTrue b ↔ ((k + 1 ≡ length cases) ⊎ (more ≤ (case_at cases k).to)) → b ≡ false → IsTrue false ↔ IsLowIn Prices night path cases L k c
    shut b test e = (
      λ (t : false ≡ true). cc,
      λ h.
          let opened : b ≡ true = test.1 (subst (λ (n : ℕ). (k + 1 ≡ length cases) ⊎ (n ≤ (case_at cases k).to)) (sym is)
          (either_test (k + 1) (length cases) (unparked_in (longer_by path c)) (case_at cases k).to h.opens.opens)) in
          cc,
    )

    pub low_is : (b : Bool) (sum : ℤ) → k < length cases → ((k + 1 ≡ length cases) ⊎ (more ≤ (case_at cases k).to)) → sum ≡ case_sum night (longer_by path c) cases k
        → IsTrue b ↔ ((sum +ℤ pos 1000) ≤ℤ pos (1000 * L)) → IsTrue b ↔ IsLowIn Prices night path cases L k c
    low_is b sum there opened es test = (
      λ t. record {
        opens = record {
          there = there;
          opens = ⊎_elim
              (λ last. last_test (k + 1) (length cases) (unparked_in (longer_by path c)) (case_at cases k).to last)
              (λ few. few_test (k + 1) (length cases) (unparked_in (longer_by path c)) (case_at cases k).to (omega (arith, few, is)))
              opened;
        };
        sum = sum;
        is = es;
        low = test.0 t;
      },
      λ h. test.1 (subst (λ (z : ℤ). (z +ℤ pos 1000) ≤ℤ pos (1000 * L)) (h.is ∙ sym es) h.low),
    )

  pub by_first : (a : Bool) → IsTrue a ↔ IsLowIn Prices night path cases L 0 c → a ≡ true → IsTrue true ↔ IsLowBy Prices night path cases L c
  by_first a test t = (λ u. record { number = 0; is = test.0 t }, λ h. refl)

  pub by_either : (a b : Bool) (last : ℕ) → length cases ≤ 2 → last + 1 ≡ length cases → IsTrue a ↔ IsLowIn Prices night path cases L 0 c → a ≡ false
      → IsTrue b ↔ IsLowIn Prices night path cases L last c
      → IsTrue b ↔ IsLowBy Prices night path cases L c
  by_either a b last few is first e by_last = (
    λ t. record { number = last; is = by_last.0 t },
    λ h. ⊎_elim
        (λ zero. let t : a ≡ true = first.1 (subst (λ (n : ℕ). IsLowIn Prices night path cases L n c) zero h.is) in absurd cc)
        (λ other. let there = h.is.opens.there in
        by_last.1 (subst (λ (n : ℕ). IsLowIn Prices night path cases L n c) (omega (arith, there, few, is, other)) h.is))
        (cases_eq h.number 0),
  )
