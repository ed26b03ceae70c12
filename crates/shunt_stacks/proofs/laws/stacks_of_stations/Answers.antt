use Rattle.shunt_stacks.proofs.Owned.{is_of_tells, stack_there, listed, listed_open, listed_track, few_stacks, one_side}
use Rattle.shunt_stacks.proofs.laws.stacks_of_stations.Goals as goal

pub returns : goal.returns
returns c = record {
  own = λ stack park. is_of_tells stack park;
  there = λ night s park stack i is e. stack_there night (c.instances.ensures.opened night i).station s park stack is ((is_of_tells stack park).1 e);
  open_at = λ s stack. (λ there. (listed_track s stack there, listed_open s stack there), λ h. listed s stack h.0 h.1);
  few = λ s h. few_stacks s h;
  one_side = λ night s k p side i is from only. one_side night (c.instances.ensures.opened night i).station s k p side is from only;
}
