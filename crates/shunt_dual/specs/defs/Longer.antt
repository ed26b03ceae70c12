-- What cases come to at a path, and the path with one block more.
use Rattle.std.specs.Prelude.{◌≡◌, ℕ, ◌<◌, pos, List, [], ◌∷◌, ◌++◌, All, length, slice_index_or, if◌then◌else◌, is_none}
use Rattle.shunt_base.specs.declared.duals.Case.{Case}
use Rattle.shunt_instance.specs.defs.Instance.{Night}
use Rattle.shunt_blocks.specs.declared.records.Block.{Block}
use Rattle.shunt_blocks.specs.defs.Shapes.{shape_of}
use Rattle.shunt_choices.specs.defs.Paths.{masks_of}
use Rattle.shunt_prices.specs.defs.Sums.{IsWithin}
use Rattle.shunt_prices.specs.defs.Cases.{IsFreeBlock}
use Rattle.shunt_prices.specs.defs.Bounds.{case_sum, unparked_in}
use Rattle.shunt_dual.specs.declared.longer.PathSums.{PathSums}

-- a sum for each case, within the limits
pub record AreSums (cases : List Case) (s : PathSums) : Type 0 where
  pub many : length s.sums.items ≡ length cases
  pub small : All (IsWithin 4010000000000000000) s.sums.items

-- the sums of the cases at a path, and how many of its blocks are unparked
pub record AreSumsAt (night : Night) (path : List Block) (cases : List Case) (s : PathSums) : Type 0 where
  pub sums : AreSums cases s
  pub each : (k : ℕ) → k < length cases → slice_index_or s.sums.items k (pos 0) ≡ case_sum night path cases k
  pub unparked : s.unparked ≡ unparked_in path

-- 1 for a block that is unparked
abbrev pub one_unparked : Block → ℕ
one_unparked b = if is_none b.park then 1 else 0

-- it is so of each path with these sums that gets this block, of uncovered units and positions
abbrev pub AtLonger : Night → List Case → PathSums → Block → (List Block → Type 0) → Type 0
AtLonger night cases s b P = (path : List Block) → AreSumsAt night path cases s → IsFreeBlock night (masks_of night path) (shape_of b) b.park → P (path ++ b ∷ [])
