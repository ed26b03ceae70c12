use Rattle.shunt_report.proofs.Compared.{of_comparison}
use Rattle.shunt_report.proofs.laws.comparisons.Goals as goal

pub returns : goal.returns
returns c = of_comparison c.places.ensures.position_in
