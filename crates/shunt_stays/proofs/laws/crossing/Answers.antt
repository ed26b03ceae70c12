use Rattle.shunt_stays.proofs.Crossings.{crosses_is, never_both, never_itself}
use Rattle.shunt_stays.proofs.laws.crossing.Goals as goal

pub returns-clause-test : goal.returns-clause-test
returns-clause-test c = crosses_is

pub returns-clause-never_both : goal.returns-clause-never_both
returns-clause-never_both c = never_both

pub returns-clause-never_itself : goal.returns-clause-never_itself
returns-clause-never_itself c = never_itself
