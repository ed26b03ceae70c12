-- The sum of a case by its number, and the bound by plain duals.
use Rattle.std.specs.Prelude.{Some, slice_get}
use Rattle.std.proofs.Common.{◌≡◌, ℕ, List, ℤ, pos, refl, sym, subst, arith}
use Rattle.shunt_base.specs.declared.duals.Duals.{Duals}
use Rattle.shunt_base.specs.declared.duals.Case.{Case}
use Rattle.shunt_instance.specs.defs.Instance.{Night}
use Rattle.shunt_blocks.specs.declared.records.Block.{Block}
use Rattle.shunt_prices.specs.defs.Limits.{from_of, plain}
use Rattle.shunt_prices.specs.defs.Bounds.{IsBoundOf, IsDualsBound, case_sum, duals_sum, sum_at}
use Rattle.shunt_dual.specs.defs.Weighed.{case_of}
use Rattle.shunt_prices.proofs.Counts.{one_bound, got}

pub case_sum_is : (night : Night) (path : List Block) (cases : List Case) (k : ℕ) (case : Case) (from : ℕ) (m s : ℤ) → slice_get cases k ≡ Some case → m ≡ case.multiplier
    → from ≡ from_of cases k
    → s ≡ sum_at night path from (record { to = case.to; multiplier = m; duals = case.duals }) → s ≡ case_sum night path cases k
case_sum_is night path cases k case from m s e same ef is =
    subst (λ (c : Case). s ≡ sum_at night path (from_of cases k) c) (sym (got cases k case e))
    (subst (λ (f : ℕ). s ≡ sum_at night path f case) ef
    (subst (λ (x : ℤ). s ≡ sum_at night path from (record { to = case.to; multiplier = x; duals = case.duals })) same is))

pub plain_bound : (night : Night) (path : List Block) (d : Duals) (s bound : ℤ) → s ≡ sum_at night path 0 (case_of (pos 0) d) → IsBoundOf s bound → IsDualsBound night path d bound
plain_bound night path d s bound e is = record {
  number = 0;
  opens = record { there = omega arith; opens = refl };
  is = first;
  least = λ k other opens h.
      let z : k ≡ 0 = omega (arith, opens.there) in
      one_bound (duals_sum night path d) bound other first (subst (λ (j : ℕ). IsBoundOf (case_sum night path (plain d) j) other) z h);
}
  where
    first : IsBoundOf (duals_sum night path d) bound
    first = subst (λ (x : ℤ). IsBoundOf x bound) e is
