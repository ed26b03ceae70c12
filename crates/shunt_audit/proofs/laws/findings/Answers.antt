use Rattle.shunt_audit.proofs.Exactly.{exactly, ordered, only_one, any_order}
use Rattle.shunt_audit.proofs.laws.findings.Goals as goal

pub returns-clause-exactly : goal.returns-clause-exactly
returns-clause-exactly c = exactly

pub returns-clause-in_order : goal.returns-clause-in_order
returns-clause-in_order c = ordered

pub returns-clause-one : goal.returns-clause-one
returns-clause-one c = only_one

pub returns-clause-any_order : goal.returns-clause-any_order
returns-clause-any_order c = any_order
