-- Paths: lists of blocks that grow block by block, and the partial plans among them.
use Rattle.std.specs.Prelude.{◌≡◌, ◌↔◌, ◌⊎◌, ℕ, ◌<◌, ◌≤◌, not, Bool, All, AllPairs, List, ◌++◌, position, Option, IsPermutation}
use Rattle.shunt_instance.specs.defs.Instance.{Night, unit_total}
use Rattle.shunt_blocks.specs.declared.records.Block.{Block}
use Rattle.shunt_blocks.specs.defs.Shapes.{begins_at, IsInRange}
use Rattle.shunt_blocks.specs.defs.Blocks.{IsBlockButId}
use Rattle.shunt_blocks.specs.defs.Lists.{times_unit, units_taken, positions_taken, ShareNothing, RunsThrough, placed}

-- for each unit and each position whether it is covered
pub record Masks : Type 0 where
  pub units : List Bool
  pub places : List Bool

-- the units and positions that these blocks have
abbrev pub masks_of : Night → List Block → Masks
masks_of night blocks = record { units = units_taken night blocks; places = positions_taken night blocks }

-- a list of blocks that began with that many pins, and what it covers
pub record Trail : Type 0 where
  pub blocks : List Block
  pub covered : Masks
  pub pins : ℕ

-- blocks in range that share nothing, and what they cover
pub record IsTrailOf (night : Night) (t : Trail) : Type 0 where
  pub each : All (IsInRange night) t.blocks
  pub apart : ShareNothing night t.blocks
  pub covered : t.covered ≡ masks_of night t.blocks

-- the least uncovered unit
abbrev pub next_of : Masks → Option ℕ
next_of covered = position (λ c. not c) covered.units

-- each block begins at an earlier unit than the later ones
abbrev pub AreInOrder : Night → List Block → Type 0
AreInOrder night blocks = AllPairs (λ b c. begins_at night b < begins_at night c) blocks

-- the pins in the order of their first units, then further blocks in that order: each is a block, whatever its id; they have exactly
-- the pins' units and those below a number, share nothing, and their run goes through with their places as ids
pub record IsPartialPlan (night : Night) (pins blocks : List Block) : Type 0 where
  pub start : List Block
  pub found : List Block
  pub below : ℕ
  pub is : blocks ≡ start ++ found
  pub pinned : IsPermutation pins start
  pub pins_rise : AreInOrder night start
  pub found_rise : AreInOrder night found
  pub each : All (IsBlockButId night) blocks
  pub exactly : (u : ℕ) → u < unit_total night → (1 ≤ times_unit night blocks u) ↔ ((1 ≤ times_unit night pins u) ⊎ (u < below))
  pub apart : ShareNothing night blocks
  pub through : RunsThrough night (placed blocks)
