use Rattle.shunt_lists.proofs.TestsBelow.{tests}
use Rattle.shunt_lists.proofs.laws.all_numbers.Goals as goal

pub returns : goal.returns
returns c = tests
