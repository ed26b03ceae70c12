use Rattle.shunt_checker.proofs.Taken.{zero_at}
use Rattle.shunt_checker.proofs.prices.zeros.Goals as goal

pub returns : goal.returns
returns c = λ t. zero_at 60 t
