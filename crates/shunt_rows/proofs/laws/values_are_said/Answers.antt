use Rattle.shunt_rows.proofs.Answered.{answered, says}
use Rattle.shunt_rows.proofs.laws.values_are_said.Goals as goal

pub returns : goal.returns
returns g c = λ n m x. (says n m x, answered n m x)
