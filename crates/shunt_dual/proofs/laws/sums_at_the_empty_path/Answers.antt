use Rattle.shunt_dual.proofs.Start.{starts}
use Rattle.shunt_dual.proofs.laws.sums_at_the_empty_path.Goals as goal

pub returns : goal.returns
returns c = starts
