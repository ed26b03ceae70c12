use Rattle.shunt_audit.proofs.BlockStays.{BlockLaws}
use Rattle.shunt_audit.proofs.Pinned.{PlaceLaws, none_where_usable}
use Rattle.shunt_audit.proofs.laws.pins.Goals as goal

pub returns : goal.returns
returns c =
    let laws : BlockLaws = record {
      sound = c.blocks-2.ensures;
      stays = λ night blocks n h. c.stays_of_blocks.ensures.stays night blocks n (c.stays_of_blocks.ensures.in_range night blocks h);
      tracks = λ night blocks h. c.stays_of_blocks.ensures.tracks night blocks (c.stays_of_blocks.ensures.in_range night blocks h);
    } in
    let places : PlaceLaws = record { unit_in = c.places.ensures.unit_in; position_in = c.places.ensures.position_in } in
    record { usable = none_where_usable laws places }
