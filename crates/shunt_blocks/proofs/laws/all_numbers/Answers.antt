use Rattle.shunt_lists.proofs.TestsBelow.{tests}
use Rattle.shunt_blocks.proofs.laws.all_numbers.Goals as goal

pub returns : goal.returns
returns c = λ n test. tests n test
