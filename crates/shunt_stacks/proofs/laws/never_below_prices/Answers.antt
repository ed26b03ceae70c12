use Rattle.shunt_stacks.proofs.Plans.{StepLaws}
use Rattle.shunt_stacks.proofs.Priced.{cases_hold, no_gain, same_sum, same_bound, same_choice}
use Rattle.shunt_stacks.proofs.laws.never_below_prices.Goals as goal

pub returns : goal.returns
returns c =
    let laws : StepLaws = record {
      places = record { unit_in = c.places.ensures.unit_in; position_in = c.places.ensures.position_in };
      part = c.ids_do_not_matter.ensures.placed_part;
      station = λ night i. (c.instances.ensures.opened night i).station;
      room = c.room.ensures.placed;
      opens = c.longer_paths.ensures.opens;
      sum = c.longer_paths.ensures.sum;
      there = c.bounds.ensures.there;
      rise = c.bounds.ensures.rise;
    } in
    record {
      hold = λ night path cases hold. cases_hold night path cases hold;
      gain = λ night path k stack i within apart go hold. no_gain laws night i path within apart k stack go hold;
      sum = λ night path cases k i within apart go hold lt. same_sum laws night i path within apart cases k go (hold k _ lt);
      bound = λ night path cases bound i within apart go hold is. same_bound laws night i path cases bound within apart go hold is;
      choice = λ night path b cases bound i within apart free go hold is. same_choice laws night i path b within apart free go cases bound hold
          (c.longer_paths.ensures.hold night path b cases hold) is;
    }
