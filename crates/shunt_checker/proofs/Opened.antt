-- The sum of a case by its number.
use Rattle.std.specs.Prelude.{Some, slice_get}
use Rattle.std.proofs.Common.{◌≡◌, ℕ, List, ℤ, sym, subst}
use Rattle.shunt_base.specs.declared.duals.Case.{Case}
use Rattle.shunt_instance.specs.defs.Instance.{Night}
use Rattle.shunt_blocks.specs.declared.records.Block.{Block}
use Rattle.shunt_prices.specs.defs.Limits.{from_of}
use Rattle.shunt_prices.specs.defs.Bounds.{case_sum, sum_at}
use Rattle.shunt_prices.proofs.Counts.{got}

pub case_sum_is : (night : Night) (path : List Block) (cases : List Case) (k : ℕ) (case : Case) (from : ℕ) (s : ℤ) → slice_get cases k ≡ Some case → from ≡ from_of cases k
    → s ≡ sum_at night path from case → s ≡ case_sum night path cases k
case_sum_is night path cases k case from s e ef is =
    subst (λ (c : Case). s ≡ sum_at night path (from_of cases k) c) (sym (got cases k case e)) (subst (λ (f : ℕ). s ≡ sum_at night path f case) ef is)

pub sum_of_case : (night : Night) (path : List Block) (cases : List Case) (k : ℕ) (case : Case) (from : ℕ) (s : ℤ) → slice_get cases k ≡ Some case → from ≡ from_of cases k
    → s ≡ case_sum night path cases k → s ≡ sum_at night path from case
sum_of_case night path cases k case from s e ef is =
    subst (λ (f : ℕ). s ≡ sum_at night path f case) (sym ef) (subst (λ (c : Case). s ≡ sum_at night path (from_of cases k) c) (got cases k case e) is)
