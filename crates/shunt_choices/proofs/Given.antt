-- What the laws of the crates below say, for the proofs that rest on them, and what follows from definitions at once.
use Rattle.std.specs.Prelude.{◌↔◌, All, map}
use Rattle.std.proofs.Common.{◌≡◌, ℕ, ◌<◌, List, [], length}
use Rattle.shunt_lists.specs.defs.Members.{In, AreDistinct}
use Rattle.shunt_instance.specs.defs.Instance.{Night, IsInstance, unit_total, position_total}
use Rattle.shunt_blocks.specs.declared.records.Shape.{Shape}
use Rattle.shunt_blocks.specs.declared.records.Block.{Block}
use Rattle.shunt_blocks.specs.defs.Shapes.{begins_at, AreRunsWithin, IsWithinTrains, HasUnit, HasPosition}
use Rattle.shunt_blocks.specs.defs.Lists.{times_unit, ShareNothing, AreInRange, RunsThrough, IsFeasible, placed}
use Rattle.shunt_blocks.specs.defs.Pins.{without_id}

-- the units and positions of a shape are numbered in the night
pub record PlaceLaws : Type 0 where
  pub unit_in : (night : Night) (s : Shape) (u : ℕ) → AreRunsWithin night s → HasUnit night s u → u < unit_total night
  pub position_in : (night : Night) (s : Shape) (v : ℕ) → AreRunsWithin night s → HasPosition night s v → v < position_total night

-- blocks that share nothing are fewer than the units where one is in none of them
abbrev pub FewerLaw : Type 0
FewerLaw = (night : Night) (blocks : List Block) (u : ℕ) → All (IsWithinTrains night) blocks → ShareNothing night blocks → u < unit_total night → times_unit night blocks u ≡ 0
    → length blocks < unit_total night

-- and their first units differ
abbrev pub FirstsLaw : Type 0
FirstsLaw = (night : Night) (blocks : List Block) → All (IsWithinTrains night) blocks → ShareNothing night blocks → AreDistinct (map (begins_at night) blocks)

pub record BlockLaws : Type 0 where
  pub places : PlaceLaws
  pub fewer : FewerLaw
  pub part : (night : Night) (blocks others : List Block) → IsInstance night → All (IsWithinTrains night) blocks → ShareNothing night blocks → All (IsWithinTrains night) others
      → ShareNothing night others
      → ((c : Block) → In c others → (b : Block) × In b blocks × (without_id b ≡ without_id c)) → RunsThrough night (placed blocks) → RunsThrough night (placed others)
  pub renumbered : (night : Night) (blocks : List Block) → IsInstance night → AreInRange night blocks → ShareNothing night blocks
      → RunsThrough night blocks ↔ RunsThrough night (placed blocks)
  pub feasible_apart : (night : Night) (blocks : List Block) → IsFeasible night blocks → ShareNothing night blocks
  pub feasible_placed : (night : Night) (blocks : List Block) → IsInstance night → IsFeasible night blocks → IsFeasible night (placed blocks)
