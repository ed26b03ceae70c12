-- The run of a filling with the path's blocks of its stack goes through where none cross and none is over.
use Rattle.std.specs.Prelude.{◌↔◌, All}
use Rattle.std.proofs.Common.{ℕ, Bool, List, ◌++◌, get_or}
use Rattle.std.proofs.lemmas.List.Elements.{All-append}
use Rattle.shunt_base.specs.declared.keys.Stay.{Stay}
use Rattle.shunt_base.specs.defs.Keys.{AreStays}
use Rattle.shunt_stays.specs.defs.Run.{GoesThrough, AreOnTracks}
use Rattle.shunt_stays.specs.defs.Crossings.{NoneCross, NoneOver}
use Rattle.shunt_instance.specs.defs.Instance.{Night, IsInstance}
use Rattle.shunt_blocks.specs.declared.records.Block.{Block}
use Rattle.shunt_blocks.specs.defs.Shapes.{IsWithinTrains}
use Rattle.shunt_blocks.specs.defs.Lists.{CanStand, ShareNothing, RunsThrough, placed, stays_of, track_lengths}
use Rattle.shunt_choices.proofs.Given.{PlaceLaws}
use Rattle.shunt_stacks.specs.defs.Stacks.{Stack, is_of, blocks_of}
use Rattle.shunt_stacks.proofs.Parts.{part_filter, part_within, IsFreeAt, is_block, joined_apart}
use Rattle.shunt_blocks.proofs.Shapes.{is_within}

pub record ClashLaws : Type 0 where
  pub places : PlaceLaws
  pub stays : (night : Night) (blocks : List Block) → IsInstance night → CanStand night blocks → AreStays (stays_of night blocks)
  pub tracks : (night : Night) (blocks : List Block) → CanStand night blocks → AreOnTracks (track_lengths night.station) (stays_of night blocks)
  pub stand : (night : Night) (blocks : List Block) → IsInstance night → All (IsWithinTrains night) blocks → ShareNothing night blocks → CanStand night (placed blocks)
  pub clash : (lengths : List ℕ) (stays : List Stay) → AreStays stays → AreOnTracks lengths stays → GoesThrough lengths stays ↔ NoneCross stays × NoneOver lengths stays

-- what stands with a path's blocks of a stack, where it shares nothing and is free
module _ (laws : ClashLaws) (night : Night) (path filling : List Block) (stack : Stack) (i : IsInstance night) (within : All (IsWithinTrains night) path)
    (apart : ShareNothing night path)
    (free : All (IsFreeAt night path) filling) (few : ShareNothing night filling) where
  abbrev test : Block → Bool
  test b = is_of stack b.park

  whole_within : All (IsWithinTrains night) (blocks_of stack path ++ filling)
  whole_within = All-append (IsWithinTrains night) (blocks_of stack path) filling
      (part_within night (IsWithinTrains night) (blocks_of stack path) path (part_filter night test path) within)
      (λ k d lt. is_within night (get_or filling k d) (is_block laws.places night path (get_or filling k d) (free k d lt)))

  whole_apart : ShareNothing night (blocks_of stack path ++ filling)
  whole_apart = joined_apart laws.places night path (blocks_of stack path) filling apart free few (part_filter night test path)

  pub clashes : RunsThrough night (placed (blocks_of stack path ++ filling)) ↔ NoneCross (stays_of night (placed (blocks_of stack path ++ filling)))
      × NoneOver (track_lengths night.station) (stays_of night (placed (blocks_of stack path ++ filling)))
  clashes =
      let stand = laws.stand night (blocks_of stack path ++ filling) i whole_within whole_apart in
      laws.clash (track_lengths night.station) (stays_of night (placed (blocks_of stack path ++ filling))) (laws.stays night (placed (blocks_of stack path ++ filling)) i stand)
      (laws.tracks night (placed (blocks_of stack path ++ filling)) stand)
