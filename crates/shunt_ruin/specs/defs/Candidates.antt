-- What is known of a list of blocks before it is judged.
use Rattle.std.specs.Prelude.{◌≡◌, ◌≤◌, List, map, length}
use Rattle.std.specs.List.{range_with_len}
use Rattle.shunt_blocks.specs.declared.records.Block.{Block}

-- at most 160 blocks, with their places in the list as ids
pub record AreNumbered (blocks : List Block) : Type 0 where
  pub few : length blocks ≤ 160
  pub ids : map (λ b. b.id) blocks ≡ range_with_len 1 (length blocks)
