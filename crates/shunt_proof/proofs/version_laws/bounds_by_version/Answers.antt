use Rattle.shunt_proof.proofs.Decided.{OneLaws, ThereLaws, step_choice, choice_step, one_bound, one_step, some_bound, some_step, bound_decides, step_decides}
use Rattle.shunt_proof.proofs.version_laws.bounds_by_version.Goals as goal

pub returns : goal.returns
returns c =
    let laws : OneLaws = record { cases = c.bounds.ensures.one_of_cases; stacks = c.one_gain.ensures.bound; choice = c.one_gain.ensures.choice } in
    let there : ThereLaws = record { cases = c.bounds.ensures.of_cases; stacks = c.gains_there.ensures.bound; choice = c.gains_there.ensures.choice } in
    record {
      choice = λ night path b cases bound. (step_choice night path b cases bound, choice_step night path b cases bound);
      one = λ version night path cases x y p q. one_bound laws version night path cases x y p q;
      one_step = λ version night path longer cases x y p q. one_step laws version night path longer cases x y p q;
      some = λ version night path cases i within apart go some. some_bound there version night path cases i within apart go some;
      some_step = λ version night path b cases i within apart free go some. some_step there version night path b cases i within apart free go some;
      reaches = λ version night path cases bound L is. bound_decides laws version night path cases bound L is;
      step_reaches = λ version night path longer cases bound L is. step_decides laws version night path longer cases bound L is;
    }
