use Rattle.shunt_checker.proofs.Taken.{zero_at}
use Rattle.shunt_checker.proofs.ways.no_costs.Goals as goal

pub returns : goal.returns
returns c = λ t. zero_at 100 t
