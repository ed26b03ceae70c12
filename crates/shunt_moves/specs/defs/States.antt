-- States of a workbench.
use Rattle.std.specs.Prelude.{ℕ, ◌<◌, ◌≤◌, ◌==◌, max, not, All, length, filter, map, List, [], ◌∷◌, Option, Some, None, if◌then◌else◌}
use Rattle.std.specs.List.{AllByRecursion}
use Rattle.shunt_instance.specs.defs.Instance.{Night}
use Rattle.shunt_blocks.specs.declared.records.Block.{Block}
use Rattle.shunt_blocks.specs.defs.Shapes.{IsInRange}
use Rattle.shunt_lists.specs.defs.Members.{Ascends}

-- blocks by ascending id, and the id that the next new block gets
pub record State : Type 0 where
  pub blocks : List Block
  pub next : ℕ

-- each id is below all that follow
abbrev pub Ascend : List Block → Type 0
Ascend = Ascends (λ b. b.id)

-- a state that can be: at most 400 blocks in range, by ascending id, and the next id is above all of theirs and at most 1,000,001
pub record IsState (night : Night) (s : State) : Type 0 where
  pub few : length s.blocks ≤ 400
  pub each : All (IsInRange night) s.blocks
  pub ascend : Ascend s.blocks
  pub below : AllByRecursion (λ b. b.id < s.next) s.blocks
  pub some : 1 ≤ s.next
  pub next : s.next ≤ 1000001

-- the block with an id
abbrev pub block_with : List Block → ℕ → Option Block
block_with [] id = None
block_with (b ∷ blocks) id = if b.id == id then Some b else block_with blocks id

-- the blocks without the one with an id
abbrev pub without_block : ℕ → List Block → List Block
without_block id blocks = filter (λ b. not (b.id == id)) blocks

-- the blocks with another in place of the one with an id
abbrev pub changed : ℕ → (Block → Block) → List Block → List Block
changed id change blocks = map (λ b. if b.id == id then change b else b) blocks

-- the greatest of their ids, or 0
abbrev pub greatest_id : List Block → ℕ
greatest_id [] = 0
greatest_id (b ∷ blocks) = max b.id (greatest_id blocks)
