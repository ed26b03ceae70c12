use Rattle.shunt.proofs.Compared.{ends_well}
use Rattle.shunt.proofs.laws.compare_completes.Goals as goal

pub returns : goal.returns
returns c = ends_well c.plan_findings.ensures.none c.same_plans.ensures
