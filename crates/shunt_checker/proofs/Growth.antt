-- A path with one more choice is a path.
use Rattle.std.specs.Prelude.{All, Option}
use Rattle.std.proofs.Common.{◌≡◌, ◌+◌, ◌≤◌, List, [], ◌∷◌, length, sym, subst, arith}
use Rattle.std.proofs.lemmas.List.{length-append}
use Rattle.shunt_instance.specs.defs.Instance.{Night}
use Rattle.shunt_blocks.specs.declared.records.Shape.{Shape}
use Rattle.shunt_blocks.specs.declared.records.Block.{Block}
use Rattle.shunt_blocks.specs.declared.records.Park.{Park}
use Rattle.shunt_blocks.specs.defs.Shapes.{IsOnTrack, IsWithinTrains}
use Rattle.shunt_blocks.specs.defs.Lists.{ShareNothing}
use Rattle.shunt_choices.specs.defs.Paths.{Trail, IsTrailOf, masks_of}
use Rattle.shunt_choices.specs.defs.Choices.{longer_by, chosen}
use Rattle.shunt_choices.proofs.Given.{PlaceLaws}
use Rattle.shunt_choices.proofs.Trails.{pushed}
use Rattle.shunt_prices.specs.defs.Cases.{IsFreeBlock}
use Rattle.shunt_checker.specs.defs.Lows.{offer_of}

module _ (numbered : PlaceLaws) (night : Night) (t : Trail) (s : Shape) (park : Option Park) (is : IsTrailOf night t) (free : IsFreeBlock night t.covered s park)
    (track : IsOnTrack night.station park) (few : length t.blocks ≤ 160) where
  pub trail_with : IsTrailOf night (record t { blocks = longer_by t.blocks (offer_of s park); covered = masks_of night (longer_by t.blocks (offer_of s park)) })
  trail_with = pushed numbered night t (chosen (length t.blocks + 1) (offer_of s park)) is
      (record { from = omega arith; to = omega (arith, few); within = record { runs = free.shape.shape.within; track = track } })
      (λ u has. free.shape.units u has) (λ v has. free.shape.positions v has)

  -- the same of a list that is those blocks
  module _ (blocks : List Block) (same : blocks ≡ longer_by t.blocks (offer_of s park)) where
    pub within_with : All (IsWithinTrains night) blocks
    within_with = subst (λ (bs : List Block). All (IsWithinTrains night) bs) (sym same) (λ k d lt. (trail_with.each k d lt).within)

    pub apart_with : ShareNothing night blocks
    apart_with = subst (λ (bs : List Block). ShareNothing night bs) (sym same) trail_with.apart

    pub short_with : length blocks ≤ 400
    short_with = subst (λ (bs : List Block). length bs ≤ 400) (sym same) (omega (arith, few, length-append t.blocks (chosen (length t.blocks + 1) (offer_of s park) ∷ [])))
