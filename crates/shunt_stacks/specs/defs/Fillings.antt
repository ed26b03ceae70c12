-- Fillings of a stack at a path, and the greatest gain among them.
use Rattle.std.specs.Prelude.{◌≡◌, ℤ, ◌-ℤ◌, ◌≤ℤ◌, true, All, List, ◌++◌}
use Rattle.shunt_base.specs.declared.duals.Case.{Case}
use Rattle.shunt_instance.specs.defs.Instance.{Night}
use Rattle.shunt_blocks.specs.declared.records.Block.{Block}
use Rattle.shunt_blocks.specs.defs.Shapes.{shape_of}
use Rattle.shunt_blocks.specs.defs.Lists.{ShareNothing, RunsThrough, placed}
use Rattle.shunt_choices.specs.defs.Paths.{masks_of}
use Rattle.shunt_prices.specs.defs.Sums.{sum_z}
use Rattle.shunt_prices.specs.defs.Cases.{IsFreeBlock, duals_over, weight}
use Rattle.shunt_stacks.specs.defs.Stacks.{Stack, is_of, blocks_of}

-- the gain of a block in a case: the values of its units and positions less its weight
abbrev pub gain : Night → Case → Block → ℤ
gain night c b = duals_over night c.duals (shape_of b) -ℤ weight night c b

-- the gains of these blocks, added up
abbrev pub gain_of : Night → Case → List Block → ℤ
gain_of night c blocks = sum_z (gain night c) blocks

-- blocks of a stack, of units and positions that a path leaves uncovered, that share nothing, and whose run goes through with the
-- path's blocks of the stack
pub record IsFilling (night : Night) (path : List Block) (stack : Stack) (filling : List Block) : Type 0 where
  pub own : All (λ b. is_of stack b.park ≡ true) filling
  pub free : All (λ b. IsFreeBlock night (masks_of night path) (shape_of b) b.park) filling
  pub apart : ShareNothing night filling
  pub through : RunsThrough night (placed (blocks_of stack path ++ filling))

-- the gain of a stack at a path in a case: some filling has it, and none has more
pub record IsStackGain (night : Night) (path : List Block) (c : Case) (stack : Stack) (most : ℤ) : Type 0 where
  pub filling : List Block
  pub fills : IsFilling night path stack filling
  pub has : gain_of night c filling ≡ most
  pub no_more : (other : List Block) → IsFilling night path stack other → gain_of night c other ≤ℤ most
