-- Plans whose cost no other option of one block lowers.
use Rattle.std.specs.Prelude.{◌≤◌, ◌==◌, List, map, if◌then◌else◌, Option}
use Rattle.shunt_lists.specs.defs.Members.{In}
use Rattle.shunt_instance.specs.defs.Instance.{Night}
use Rattle.shunt_blocks.specs.declared.records.Block.{Block}
use Rattle.shunt_blocks.specs.declared.records.Park.{Park}
use Rattle.shunt_blocks.specs.defs.Shapes.{shape_of}
use Rattle.shunt_blocks.specs.defs.Blocks.{IsOption}
use Rattle.shunt_blocks.specs.defs.Lists.{IsFeasible, total_cost}
use Rattle.shunt_blocks.specs.defs.Pins.{IsKept, Keeps}

-- the blocks with another option for the one of this block's id
abbrev pub with_option : Block → Option Park → List Block → List Block
with_option block option blocks = map {A = Block} (λ b. if b.id == block.id then record b { park = option } else b) blocks

-- a feasible plan that keeps the pins, in which no other option of one block that is no pin gives a feasible plan of lower cost
pub record IsPolished (night : Night) (pins blocks : List Block) : Type 0 where
  pub feasible : IsFeasible night blocks
  pub keeps : Keeps blocks pins
  pub least : (b : Block) (option : Option Park) → In b blocks → (IsKept pins b → ⊥) → IsOption night (shape_of b) option → IsFeasible night (with_option b option blocks)
      → total_cost night blocks ≤ total_cost night (with_option b option blocks)
