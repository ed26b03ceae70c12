use Rattle.shunt_dual.proofs.ways.no_costs.Goals as goal
use Rattle.shunt_lists.proofs.Numbers.{zero_at}

pub returns : goal.returns
returns c = λ t. zero_at 100 t
