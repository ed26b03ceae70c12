use Rattle.shunt_resume.proofs.AsItCame.{gone_from, gone_to}
use Rattle.shunt_resume.proofs.laws.gone_blocks.Goals as goal

pub returns-clause-there : goal.returns-clause-there
returns-clause-there c = gone_from

pub returns-clause-all : goal.returns-clause-all
returns-clause-all c = gone_to
