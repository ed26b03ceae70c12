use Rattle.shunt_stays.proofs.Blocks.{without_is, without_none}
use Rattle.shunt_stays.proofs.laws.leaving.Goals as goal

pub returns-clause-others : goal.returns-clause-others
returns-clause-others c = without_is

pub returns-clause-none : goal.returns-clause-none
returns-clause-none c = without_none
