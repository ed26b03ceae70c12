use Rattle.shunt.proofs.Exactly.{input_there, input_only}
use Rattle.shunt.proofs.laws.input_exactly.Goals as goal

pub returns-clause-there : goal.returns-clause-there
returns-clause-there c = input_there

pub returns-clause-only : goal.returns-clause-only
returns-clause-only c = input_only
