use Rattle.shunt_resume.proofs.Goings.{come_stays}
use Rattle.shunt_resume.proofs.laws.what_has_come_stays.Goals as goal

pub returns : goal.returns
returns c = come_stays
