-- When cases with stacks hold: of the free shapes, those that stacks don't ask for are asked as without stacks.
use Rattle.std.specs.Prelude.{◌≡◌, ◌≤ℤ◌, All, List, Option, None}
use Rattle.shunt_base.specs.declared.duals.Case.{Case}
use Rattle.shunt_instance.specs.defs.Instance.{Night}
use Rattle.shunt_blocks.specs.declared.records.Shape.{Shape}
use Rattle.shunt_blocks.specs.declared.records.Block.{Block}
use Rattle.shunt_blocks.specs.declared.records.Park.{Park}
use Rattle.shunt_choices.specs.defs.Paths.{Masks, masks_of}
use Rattle.shunt_prices.specs.defs.Cases.{IsFreeBlock, HasRoom, duals_over, weight_with}
use Rattle.shunt_stacks.specs.defs.Stacks.{stack_of}

-- no free shape with an option of no stack that has room weighs less in a case than its duals
pub record HoldsBesideStacks (night : Night) (covered : Masks) (c : Case) : Type 0 where
  pub holds : (s : Shape) (park : Option Park) → IsFreeBlock night covered s park → stack_of park ≡ None → HasRoom night s park
      → duals_over night c.duals s ≤ℤ weight_with night c s park

-- the cases with stacks hold at a path
abbrev pub StackCasesHold : Night → List Block → List Case → Type 0
StackCasesHold night path cases = All (HoldsBesideStacks night (masks_of night path)) cases
