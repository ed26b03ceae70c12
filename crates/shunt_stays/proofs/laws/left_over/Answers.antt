use Rattle.shunt_stays.proofs.Ends.{counted, nothing_left}
use Rattle.shunt_stays.proofs.laws.left_over.Goals as goal

pub returns-clause-count : goal.returns-clause-count
returns-clause-count c = counted

pub returns-clause-none : goal.returns-clause-none
returns-clause-none c = nothing_left
