-- Which plans a file can state, and which pins a plan keeps.
use Rattle.std.specs.Prelude.{◌≡◌, ◌≤◌, ℕ, List, ◌∷◌, ◌++◌}
use Rattle.shunt_instance.specs.defs.Instance.{Night}
use Rattle.shunt_blocks.specs.declared.records.Block.{Block}
use Rattle.shunt_blocks.specs.defs.Lists.{AreInRange}
use Rattle.shunt_blocks.specs.defs.Pins.{IsKept, Keeps}
use Rattle.shunt_plan.specs.declared.records.Plan.{Plan}

-- at most 400 blocks in range with distinct ids, and a stated cost of at most 10^12
pub record IsPlanInRange (night : Night) (plan : Plan) : Type 0 where
  pub blocks : AreInRange night plan.blocks
  pub cost : plan.cost ≤ 1000000000000

-- the first of these pins that blocks don't keep has this id
pub record IsFirstLost (blocks pins : List Block) (id : ℕ) : Type 0 where
  pub before : List Block
  pub pin : Block
  pub after : List Block
  pub place : pins ≡ before ++ pin ∷ after
  pub kept : Keeps blocks before
  pub lost : IsKept blocks pin → ⊥
  pub is : pin.id ≡ id
