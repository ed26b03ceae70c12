-- What stacks are judged by at a path.
use Rattle.std.specs.Prelude.{◌≡◌, All, List, [], ◌∷◌, ◌++◌}
use Rattle.shunt_instance.specs.defs.Instance.{Night}
use Rattle.shunt_blocks.specs.declared.records.Block.{Block}
use Rattle.shunt_blocks.specs.defs.Shapes.{shape_of, IsInRange}
use Rattle.shunt_blocks.specs.defs.Blocks.{IsBlockButId}
use Rattle.shunt_blocks.specs.defs.Lists.{RunsThrough, placed}
use Rattle.shunt_choices.specs.defs.Paths.{IsTrailOf, masks_of}
use Rattle.shunt_choices.specs.defs.Choices.{AreFreeShapes}
use Rattle.shunt_prices.specs.defs.Cases.{IsFreeBlock}
use Rattle.shunt_stacks.specs.defs.Stacks.{stacks}
use Rattle.shunt_gains.specs.defs.Events.{AreEvents}
use Rattle.shunt_fillings.specs.declared.scenes.Scene.{Scene}
use Rattle.shunt_fillings.specs.defs.Pieces.{all_seen}

-- a path of blocks whose run goes through, with the numbers of the night's events, the stacks of its station and the path's free shapes
pub record IsScene (s : Scene) : Type 0 where
  pub events : AreEvents s.instance.now s.events.now
  pub stacks : all_seen s.stacks.now ≡ stacks s.instance.now.station
  pub path : IsTrailOf s.instance.now s.path.now
  pub each : All (IsBlockButId s.instance.now) s.path.now.blocks
  pub through : RunsThrough s.instance.now (placed s.path.now.blocks)
  pub shapes : AreFreeShapes s.instance.now s.path.now.covered s.shapes.now

-- a block that may come to a path: its units and positions are uncovered, and the run goes through with it
pub record MayCome (night : Night) (path : List Block) (b : Block) : Type 0 where
  pub in_range : IsInRange night b
  pub free : IsFreeBlock night (masks_of night path) (shape_of b) b.park
  pub through : RunsThrough night (placed (path ++ b ∷ []))
