-- When cases hold: no shape that is free weighs less than its duals.
use Rattle.std.specs.Prelude.{ℕ, ◌+◌, ◌*◌, ◌≤◌, ℤ, pos, ◌+ℤ◌, ◌≤ℤ◌, All, IfSome, slice_index_or, List, Option, Some, None}
use Rattle.shunt_base.specs.declared.duals.Duals.{Duals}
use Rattle.shunt_base.specs.declared.duals.Case.{Case}
use Rattle.shunt_instance.specs.defs.Instance.{Night}
use Rattle.shunt_blocks.specs.declared.records.Shape.{Shape}
use Rattle.shunt_blocks.specs.declared.records.Block.{Block}
use Rattle.shunt_blocks.specs.declared.records.Park.{Park}
use Rattle.shunt_blocks.specs.defs.Shapes.{shape_of, unit_from, position_from}
use Rattle.shunt_blocks.specs.defs.Blocks.{IsOption}
use Rattle.shunt_blocks.specs.defs.Costs.{cost_with}
use Rattle.shunt_blocks.specs.defs.Stays.{shape_length}
use Rattle.shunt_choices.specs.defs.Paths.{Masks, masks_of}
use Rattle.shunt_choices.specs.defs.Choices.{IsFreeShape}
use Rattle.shunt_prices.specs.defs.Sums.{sum_z_below}
use Rattle.shunt_prices.specs.defs.Prices.{track_length, price_part_with}
use Rattle.shunt_prices.specs.defs.Limits.{plain}

-- the value of the unit with a number
abbrev pub alpha_at : Duals → ℕ → ℤ
alpha_at d u = slice_index_or d.alpha u (pos 0)

-- the value of the position with a number
abbrev pub beta_at : Duals → ℕ → ℤ
beta_at d v = slice_index_or d.beta v (pos 0)

-- the values of a shape's units and positions, added up
abbrev pub duals_over : Night → Duals → Shape → ℤ
duals_over night d s = sum_z_below s.n (λ k. alpha_at d (unit_from night s + k)) +ℤ sum_z_below s.n (λ k. beta_at d (position_from night s + k))

-- what an unparked block weighs more than it costs
abbrev pub surcharge : ℤ → Option Park → ℤ
surcharge multiplier None = multiplier
surcharge multiplier (Some k) = pos 0

-- the weight of a shape with an option in a case: 1000 times its cost, its price part, and the multiplier where it is unparked
abbrev pub weight_with : Night → Case → Shape → Option Park → ℤ
weight_with night c s park = pos (1000 * cost_with night s park + price_part_with night c.duals.prices s park) +ℤ surcharge c.multiplier park

-- the weight of a block in a case
abbrev pub weight : Night → Case → Block → ℤ
weight night c b = weight_with night c (shape_of b) b.park

-- a shape of uncovered units and positions, with one of its options
pub record IsFreeBlock (night : Night) (covered : Masks) (s : Shape) (park : Option Park) : Type 0 where
  pub shape : IsFreeShape night covered (unit_from night s) s
  pub option : IsOption night s park

-- unparked, or on a track at least as long as the shape
abbrev pub HasRoom : Night → Shape → Option Park → Type 0
HasRoom night s park = IfSome park (λ k. shape_length night s ≤ track_length night k.track.0)

-- no free shape with an option that has room weighs less in a case than its duals
pub record HoldsInCase (night : Night) (covered : Masks) (c : Case) : Type 0 where
  pub holds : (s : Shape) (park : Option Park) → IsFreeBlock night covered s park → HasRoom night s park → duals_over night c.duals s ≤ℤ weight_with night c s park

-- the cases hold at a path
abbrev pub CasesHold : Night → List Block → List Case → Type 0
CasesHold night path cases = All (HoldsInCase night (masks_of night path)) cases

-- plain duals hold at a path
abbrev pub DualsHold : Night → List Block → Duals → Type 0
DualsHold night path d = CasesHold night path (plain d)
