use Rattle.shunt_search.proofs.Climbed.{RisingLaws, holds_on, step_rises, longer_rises, bounds_plans}
use Rattle.shunt_search.proofs.monotonicity.bounds_rise_in_versions.Goals as goal

pub returns : goal.returns
returns c =
    let laws : RisingLaws = record {
      hold = c.longer_paths.ensures.hold;
      one = c.bounds.ensures.one_of_cases;
      rise = c.bounds_rise.ensures.bound;
      dual = c.weak_duality.ensures.cases;
      stack_hold = c.bounds_rise-2.ensures.hold;
      stack_rise = c.bounds_rise-2.ensures.choice;
      stack_longer = c.bounds_rise-2.ensures.longer;
      stack_dual = c.weak_duality-2.ensures.path;
      choice = c.bounds_by_version.ensures.choice;
    } in
    record {
      hold = λ version night path b cases h. holds_on laws version night path b cases h;
      step = λ version night path b cases before after i within apart free through hold was is.
          step_rises laws version night path b cases before after i within apart free through hold was is;
      longer = λ version night path b cases before after i within apart free was is. longer_rises laws version night path b cases before after i within apart free was is;
      plans = λ version night plan path cases bound i feasible apart keeps are hold is. bounds_plans laws version night plan path cases bound i feasible apart keeps are hold is;
    }
