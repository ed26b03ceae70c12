use Rattle.shunt_choices.proofs.Given.{BlockLaws}
use Rattle.shunt_choices.proofs.Partial.{pins_alone, grows, comes, once}
use Rattle.shunt_choices.proofs.laws.plans_grow.Goals as goal

pub returns : goal.returns
returns c =
    let laws : BlockLaws = record {
      places = record { unit_in = c.places.ensures.unit_in; position_in = c.places.ensures.position_in };
      fewer = c.few_blocks.ensures.fewer;
      part = c.ids_do_not_matter.ensures.placed_part;
      renumbered = c.ids_do_not_matter.ensures.placed;
      feasible_apart = c.feasible_lists.ensures.apart;
      feasible_placed = c.feasible_lists.ensures.placed;
    } in
    record {
      pins = λ night pins start is usable same rise. pins_alone laws night pins start is usable same rise;
      grows = λ night pins blocks k h at. grows laws night pins blocks k h at;
      comes = λ night pins blocks is h. comes laws night pins blocks is h;
      once = λ front other k d e. once front other k d e;
    }
