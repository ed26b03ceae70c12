use Rattle.shunt_matching.proofs.Firsts.{one_first}
use Rattle.shunt_matching.proofs.Decided.{never}
use Rattle.shunt_matching.proofs.laws.one_shortage.Goals as goal

pub returns-clause-never : goal.returns-clause-never
returns-clause-never c = never

pub returns-clause-one : goal.returns-clause-one
returns-clause-one c = one_first
