use Rattle.shunt_stacks.proofs.Filled.{one_gain, at_least_zero}
use Rattle.shunt_stacks.proofs.Rises.{one_sum}
use Rattle.shunt_stacks.proofs.Ones.{one_choice_sum, one_bound, one_choice}
use Rattle.shunt_stacks.proofs.laws.one_gain.Goals as goal

pub returns : goal.returns
returns c = record {
  gain = λ night path k stack x y g h. one_gain night path k stack x y g h;
  least = λ night path k stack x i within apart go is. at_least_zero c.ids_do_not_matter.ensures.placed_part night i path within apart k stack x go is;
  sum = λ night path cases k x y s t. one_sum night path cases k x y s t;
  choice_sum = λ night path b cases k x y s t. one_choice_sum night path b cases k x y s t;
  bound = λ night path cases x y s t. one_bound night path cases x y s t;
  choice = λ night path b cases x y s t. one_choice night path b cases x y s t;
}
