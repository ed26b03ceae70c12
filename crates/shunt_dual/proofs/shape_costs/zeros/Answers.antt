use Rattle.shunt_dual.proofs.shape_costs.zeros.Goals as goal
use Rattle.shunt_lists.proofs.Numbers.{zero_at}

pub returns : goal.returns
returns c = λ t. zero_at 60 t
