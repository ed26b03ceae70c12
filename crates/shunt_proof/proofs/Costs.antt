-- A path costs no more than a plan that keeps it: duals of 0 hold at each path, and its bound by them is what it costs.
use Rattle.std.specs.Prelude.{All, replicate, sum_by, ◌*ℤ◌, ◌≤ℤ◌}
use Rattle.std.proofs.Math.Nat.{zero-mul}
use Rattle.std.proofs.Common.{◌≡◌, ℕ, zero, suc, ◌+◌, ◌*◌, ◌≤◌, Bool, true, false, cond, List, [], ◌∷◌, get_or, ℤ, pos, ◌+ℤ◌, refl, sym, ap, subst, arith}
use Rattle.std.proofs.lemmas.Int.{ints, clamps}
use Rattle.std.proofs.lemmas.List.{get_or-replicate, length-replicate}
use Rattle.std.proofs.lemmas.List.Sums.{sum_by-cons}
use Rattle.shunt_lists.proofs.Lists.{all_one}
use Rattle.shunt_base.specs.declared.duals.Duals.{Duals}
use Rattle.shunt_base.specs.declared.duals.Case.{Case}
use Rattle.shunt_instance.specs.defs.Instance.{Night, IsInstance, unit_total, position_total}
use Rattle.shunt_blocks.specs.declared.records.Block.{Block}
use Rattle.shunt_blocks.specs.defs.Shapes.{unit_from, position_from}
use Rattle.shunt_blocks.specs.defs.Lists.{ShareNothing, IsFeasible, total_cost}
use Rattle.shunt_blocks.specs.defs.Pins.{Keeps}
use Rattle.shunt_choices.specs.defs.Paths.{masks_of}
use Rattle.shunt_prices.specs.defs.Sums.{sum_z, sum_z_below}
use Rattle.shunt_prices.specs.defs.Prices.{price_part}
use Rattle.shunt_prices.specs.defs.Limits.{IsValue, AreDuals, plain}
use Rattle.shunt_prices.specs.defs.Cases.{alpha_at, beta_at, weight, HoldsInCase, DualsHold}
use Rattle.shunt_prices.specs.defs.Bounds.{uncovered_alphas, uncovered_betas, case_sum, unparked_in, IsBoundOf, IsDualsBound}
use Rattle.shunt_prices.proofs.Signed.{sum_z_below-zero, bound_rises}
use Rattle.shunt_prices.proofs.Counts.{no_surcharge}

-- what the laws of the crates below say
pub record CostLaws : Type 0 where
  pub dual : (night : Night) (plan path : List Block) (d : Duals) (bound : ℤ) → IsInstance night → IsFeasible night plan → ShareNothing night path → Keeps plan path
      → AreDuals night d → DualsHold night path d → IsDualsBound night path d bound → bound ≤ℤ pos (total_cost night plan)
  pub weights : (night : Night) (c : Case) (path : List Block) → sum_z (weight night c) path
      ≡ pos (1000 * total_cost night path + sum_by (price_part night c.duals.prices) path) +ℤ (c.multiplier *ℤ pos (unparked_in path))

abbrev none : ℕ → List ℤ
none n = replicate n (pos 0)

abbrev zeros : Night → Duals
zeros night = record { alpha = none (unit_total night); beta = none (position_total night); prices = [] }

abbrev zero_case : Night → Case
zero_case night = record { to = 160; multiplier = pos 0; duals = zeros night }

none_at : (n i : ℕ) → get_or (none n) i (pos 0) ≡ pos 0
none_at zero i = refl
none_at (suc n) zero = refl
none_at (suc n) (suc i) = none_at n i

none_in : (n : ℕ) → All IsValue (none n)
none_in n k d lt = subst IsValue (sym (get_or-replicate n k (pos 0) d (omega (arith, lt, length-replicate n (pos 0)))))
    (record { low = omega (arith, ints); high = omega (arith, ints) })

zeros_are : (night : Night) → AreDuals night (zeros night)
zeros_are night = record {
  alphas = length-replicate (unit_total night) (pos 0);
  betas = length-replicate (position_total night) (pos 0);
  alphas_in = none_in (unit_total night);
  betas_in = none_in (position_total night);
  prices = record { few = omega arith; each = λ k d lt. absurd (omega (arith, lt)) };
}

zeros_hold : (night : Night) (path : List Block) → DualsHold night path (zeros night)
zeros_hold night path = all_one (HoldsInCase night (masks_of night path)) (zero_case night) (record {
  holds = λ s park free room.
      let a : sum_z_below s.n (λ k. alpha_at (zeros night) (unit_from night s + k))
      ≡ pos 0 = sum_z_below-zero s.n (λ k. alpha_at (zeros night) (unit_from night s + k)) (λ k lt. none_at (unit_total night) (unit_from night s + k)) in
      let b : sum_z_below s.n (λ k. beta_at (zeros night) (position_from night s + k))
      ≡ pos 0 = sum_z_below-zero s.n (λ k. beta_at (zeros night) (position_from night s + k)) (λ k lt. none_at (position_total night) (position_from night s + k)) in
      omega (arith, ints, a, b, no_surcharge park);
})

no_parts : (night : Night) (path : List Block) → sum_by (price_part night []) path ≡ 0
no_parts night [] = refl
no_parts night (b ∷ path) = omega (arith, sum_by-cons (price_part night []) b path, no_parts night path)

hidden : (b : Bool) (z : ℤ) → z ≡ pos 0 → cond b (pos 0) z ≡ pos 0
hidden true z e = refl
hidden false z e = e

module _ (laws : CostLaws) (night : Night) (path : List Block) where
  no_alphas : uncovered_alphas night (masks_of night path) (zeros night) ≡ pos 0
  no_alphas = sum_z_below-zero (unit_total night) (λ u. cond (get_or (masks_of night path).units u true) (pos 0) (alpha_at (zeros night) u))
      (λ u lt. hidden (get_or (masks_of night path).units u true) (alpha_at (zeros night) u) (none_at (unit_total night) u))

  no_betas : uncovered_betas night (masks_of night path) (zeros night) ≡ pos 0
  no_betas = sum_z_below-zero (position_total night) (λ v. cond (get_or (masks_of night path).places v true) (pos 0) (beta_at (zeros night) v))
      (λ v lt. hidden (get_or (masks_of night path).places v true) (beta_at (zeros night) v) (none_at (position_total night) v))

  no_multiple : (n : ℕ) → (pos 0 *ℤ pos n) ≡ pos 0
  no_multiple n = ap pos (zero-mul n)

  zero_sum : case_sum night path (plain (zeros night)) 0 ≡ pos (1000 * total_cost night path)
  zero_sum = omega (
    arith,
    ints,
    clamps,
    laws.weights night (zero_case night) path,
    no_parts night path,
    no_multiple (unparked_in path),
    no_multiple 0,
    no_multiple 160,
    no_alphas,
    no_betas,
  )

  is_bound : IsBoundOf (case_sum night path (plain (zeros night)) 0) (pos (total_cost night path))
  is_bound = record { enough = omega (arith, ints, zero_sum); least = omega (arith, ints, zero_sum) }

  bound_is : IsDualsBound night path (zeros night) (pos (total_cost night path))
  bound_is = record {
    number = 0;
    opens = record { there = omega arith; opens = refl };
    is = is_bound;
    least = λ k other opens is.
        let first : k ≡ 0 = omega (arith, opens.there) in
        bound_rises (case_sum night path (plain (zeros night)) 0) (case_sum night path (plain (zeros night)) 0) (pos (total_cost night path)) other (omega (arith, ints)) is_bound
        (subst (λ (i : ℕ). IsBoundOf (case_sum night path (plain (zeros night)) i) other) first is);
  }

  pub costs_less : (plan : List Block) → IsInstance night → IsFeasible night plan → ShareNothing night path → Keeps plan path → total_cost night path ≤ total_cost night plan
  costs_less plan i f apart keeps = let low = laws.dual night plan path (zeros night) (pos (total_cost night path)) i f apart keeps (zeros_are night)
      (zeros_hold night path) bound_is in omega (arith, ints, low)
