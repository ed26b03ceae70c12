use Rattle.shunt_report.proofs.OfNight.{of_verdict}
use Rattle.shunt_report.proofs.laws.verdicts.Goals as goal

pub returns : goal.returns
returns c = of_verdict
