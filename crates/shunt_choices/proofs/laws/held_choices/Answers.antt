use Rattle.shunt_choices.proofs.Given.{BlockLaws}
use Rattle.shunt_choices.proofs.Begins.{held_choice}
use Rattle.shunt_choices.proofs.laws.held_choices.Goals as goal

pub returns : goal.returns
returns c =
    let laws : BlockLaws = record {
      places = record { unit_in = c.places.ensures.unit_in; position_in = c.places.ensures.position_in };
      fewer = c.few_blocks.ensures.fewer;
      part = c.ids_do_not_matter.ensures.placed_part;
      renumbered = c.ids_do_not_matter.ensures.placed;
      feasible_apart = c.feasible_lists.ensures.apart;
      feasible_placed = c.feasible_lists.ensures.placed;
    } in
    λ night plan path u is h apart keeps e. let x = held_choice laws night plan path u is h apart keeps e in (x.0, x.1.choice, x.1.keeps, x.1.through)
