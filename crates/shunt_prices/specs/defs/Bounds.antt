-- The sum of a case at a path, and the bound of the path.
use Rattle.std.specs.Prelude.{◌≡◌, ◌⊎◌, ℕ, ◌+◌, ◌<◌, ◌==◌, nat_le, Bool, true, ◌||◌, ℤ, pos, ◌+ℤ◌, ◌-ℤ◌, ◌*ℤ◌, ◌≤ℤ◌, ◌<ℤ◌, if◌then◌else◌, is_none, count_by, length, slice_index_or, List}
use Rattle.std.specs.Int.{int_max}
use Rattle.shunt_base.specs.declared.duals.Duals.{Duals}
use Rattle.shunt_base.specs.declared.duals.Case.{Case}
use Rattle.shunt_instance.specs.defs.Instance.{Night, unit_total, position_total}
use Rattle.shunt_blocks.specs.declared.records.Block.{Block}
use Rattle.shunt_choices.specs.defs.Paths.{Masks, masks_of}
use Rattle.shunt_prices.specs.defs.Sums.{sum_z, sum_z_below}
use Rattle.shunt_prices.specs.defs.Prices.{paid_at_most}
use Rattle.shunt_prices.specs.defs.Limits.{case_at, from_of, plain}
use Rattle.shunt_prices.specs.defs.Cases.{alpha_at, beta_at, weight}

-- the values of the uncovered units, added up
abbrev pub uncovered_alphas : Night → Masks → Duals → ℤ
uncovered_alphas night covered d = sum_z_below (unit_total night) (λ u. if slice_index_or covered.units u true then pos 0 else alpha_at d u)

-- the values of the uncovered positions, added up
abbrev pub uncovered_betas : Night → Masks → Duals → ℤ
uncovered_betas night covered d = sum_z_below (position_total night) (λ v. if slice_index_or covered.places v true then pos 0 else beta_at d v)

-- what the surcharge of unparked blocks comes to at most, where there are from one number to another of them
abbrev pub most_surcharge : ℤ → ℕ → ℕ → ℤ
most_surcharge multiplier from to = int_max (multiplier *ℤ pos from) (multiplier *ℤ pos to)

-- the sum at a path of a case that speaks of plans with this many unparked blocks or more: the weights of the path's blocks and the
-- values of the uncovered units and positions, less what prices and surcharge come to at most
abbrev pub sum_at : Night → List Block → ℕ → Case → ℤ
sum_at night path from c = sum_z (weight night c) path +ℤ (uncovered_alphas night (masks_of night path) c.duals +ℤ uncovered_betas night (masks_of night path) c.duals) -ℤ pos
    (paid_at_most night c.duals.prices) -ℤ most_surcharge c.multiplier from c.to

-- the sum of the case with a number
abbrev pub case_sum : Night → List Block → List Case → ℕ → ℤ
case_sum night path cases k = sum_at night path (from_of cases k) (case_at cases k)

-- the sum of plain duals
abbrev pub duals_sum : Night → List Block → Duals → ℤ
duals_sum night path d = case_sum night path (plain d) 0

-- how many blocks of a path are unparked
abbrev pub unparked_in : List Block → ℕ
unparked_in path = count_by (λ b. is_none b.park) path

-- whether the case with a number is open at a path: the path has no more unparked blocks than its greatest number, or it is the last case
abbrev pub is_open : List Case → List Block → ℕ → Bool
is_open cases path k = (k + 1 == length cases) || nat_le (unparked_in path) (case_at cases k).to

-- it is one of the cases, and it is open
pub record IsOpenAt (cases : List Case) (path : List Block) (k : ℕ) : Type 0 where
  pub there : k < length cases
  pub opens : is_open cases path k ≡ true

-- a sum divided by 1000 and rounded up
pub record IsBoundOf (sum bound : ℤ) : Type 0 where
  pub enough : sum ≤ℤ (pos 1000 *ℤ bound)
  pub least : (pos 1000 *ℤ bound) <ℤ (sum +ℤ pos 1000)

-- the bound of a path by cases: the least of the bounds of those that are open
pub record IsCasesBound (night : Night) (path : List Block) (cases : List Case) (bound : ℤ) : Type 0 where
  pub number : ℕ
  pub opens : IsOpenAt cases path number
  pub is : IsBoundOf (case_sum night path cases number) bound
  pub least : (k : ℕ) (other : ℤ) → IsOpenAt cases path k → IsBoundOf (case_sum night path cases k) other → bound ≤ℤ other

-- the bound of an open case, and at most that of the last case and of each open one before a number
pub record IsLeastBelow (night : Night) (path : List Block) (cases : List Case) (k : ℕ) (bound : ℤ) : Type 0 where
  pub number : ℕ
  pub opens : IsOpenAt cases path number
  pub is : IsBoundOf (case_sum night path cases number) bound
  pub least : (j : ℕ) (other : ℤ) → (j < k) ⊎ (j + 1 ≡ length cases) → IsOpenAt cases path j → IsBoundOf (case_sum night path cases j) other → bound ≤ℤ other

-- the bound of a path by plain duals
abbrev pub IsDualsBound : Night → List Block → Duals → ℤ → Type 0
IsDualsBound night path d bound = IsCasesBound night path (plain d) bound
