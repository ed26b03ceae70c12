use Rattle.shunt_choices.proofs.Given.{PlaceLaws}
use Rattle.shunt_prices.proofs.Capacity.{RunLaws}
use Rattle.shunt_prices.proofs.Ends.{PlanLaws, bound_below, one_case}
use Rattle.shunt_prices.specs.defs.Limits.{plain}
use Rattle.shunt_prices.proofs.laws.weak_duality.Goals as goal

pub returns : goal.returns
returns c =
    let runs : RunLaws = record {
      opened = c.instances.ensures.opened;
      together = c.standing_together.ensures;
      stays = c.stays_of_blocks.ensures.stays;
      tracks = c.stays_of_blocks.ensures.tracks;
      stand = c.stays_of_blocks.ensures.placed;
      in_time = c.shapes.ensures.in_time;
    } in
    let places : PlaceLaws = record { unit_in = c.places.ensures.unit_in; position_in = c.places.ensures.position_in } in
    let laws : PlanLaws = record {
      runs = runs;
      places = places;
      to = c.stays_of_blocks.ensures.to;
      fewer = c.few_blocks.ensures.fewer;
      few = c.few_blocks.ensures.most;
      units_few = c.unit_numbers.ensures.units_few;
      part = c.ids_do_not_matter.ensures.placed_part;
      apart = c.feasible_lists.ensures.apart;
      renumbered = c.feasible_lists.ensures.placed;
      held = c.held_choices.ensures;
    } in
    record {
      cases = λ night plan path cases bound i h apart keeps are hold is. bound_below laws night i plan h cases path bound apart keeps are hold is;
      duals = λ night plan path d bound i h apart keeps are hold is. bound_below laws night i plan h (plain d) path bound apart keeps (one_case night d are) hold is;
      one_case = λ night d are. one_case night d are;
    }
