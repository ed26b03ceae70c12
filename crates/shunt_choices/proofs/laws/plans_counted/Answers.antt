use Rattle.shunt_choices.proofs.Given.{BlockLaws}
use Rattle.shunt_choices.proofs.Counted.{counted, any_order}
use Rattle.shunt_choices.proofs.laws.plans_counted.Goals as goal

pub returns : goal.returns
returns c =
    let laws : BlockLaws = record {
      places = record { unit_in = c.places.ensures.unit_in; position_in = c.places.ensures.position_in };
      fewer = c.few_blocks.ensures.fewer;
      part = c.ids_do_not_matter.ensures.placed_part;
      renumbered = c.ids_do_not_matter.ensures.placed;
      feasible_apart = c.feasible_lists.ensures.apart;
      feasible_placed = c.feasible_lists.ensures.placed;
    } in
    record {
      sum = λ night blocks is within apart. counted laws night blocks is within apart;
      any_order = λ night blocks others is within apart same. any_order laws night blocks others is within apart same;
    }
