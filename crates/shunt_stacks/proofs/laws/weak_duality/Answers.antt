use Rattle.shunt_stacks.proofs.Plans.{StepLaws, PlanLaws, path_bound, choice_bound}
use Rattle.shunt_stacks.proofs.laws.weak_duality.Goals as goal

pub returns : goal.returns
returns c =
    let laws : StepLaws = record {
      places = record { unit_in = c.places.ensures.unit_in; position_in = c.places.ensures.position_in };
      part = c.ids_do_not_matter.ensures.placed_part;
      station = λ night i. (c.instances.ensures.opened night i).station;
      room = c.room.ensures.placed;
      opens = c.longer_paths.ensures.opens;
      sum = c.longer_paths.ensures.sum;
      there = c.bounds.ensures.there;
      rise = c.bounds.ensures.rise;
    } in
    let plans : PlanLaws = record {
      steps = laws;
      fewer = c.few_blocks.ensures.fewer;
      apart = c.feasible_lists.ensures.apart;
      renumbered = c.feasible_lists.ensures.placed;
      held = c.held_choices.ensures;
      of_cases = c.bounds.ensures.of_cases;
      prices = c.weak_duality.ensures.cases;
    } in
    record {
      path = λ night plan path cases bound i h apart keeps are hold is. path_bound plans night i plan h path cases bound apart keeps are hold is;
      choice = λ night plan path b cases bound i h apart keeps are hold is. choice_bound plans night i plan h path b cases bound apart keeps are hold is;
    }
