use Rattle.shunt_audit.proofs.BlockStays.{BlockLaws}
use Rattle.shunt_audit.proofs.Feasible.{none_where_feasible}
use Rattle.shunt_audit.proofs.laws.feasible.Goals as goal

pub returns : goal.returns
returns c =
    let laws : BlockLaws = record {
      sound = c.blocks-2.ensures;
      stays = λ night blocks n h. c.stays_of_blocks.ensures.stays night blocks n (c.stays_of_blocks.ensures.in_range night blocks h);
      tracks = λ night blocks h. c.stays_of_blocks.ensures.tracks night blocks (c.stays_of_blocks.ensures.in_range night blocks h);
    } in
    record { none = none_where_feasible laws }
