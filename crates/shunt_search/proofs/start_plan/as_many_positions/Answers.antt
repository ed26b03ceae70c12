use Rattle.shunt_dual.proofs.Matched.{as_many}
use Rattle.shunt_search.proofs.start_plan.as_many_positions.Goals as goal

pub returns : goal.returns
returns c = λ night place m. as_many night place m
