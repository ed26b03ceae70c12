use Rattle.shunt_cross.proofs.Through.{in_code}
use Rattle.shunt_cross.proofs.laws.clash_law_in_code.Goals as goal

pub returns : goal.returns
returns c = in_code
