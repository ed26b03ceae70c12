use Rattle.shunt.proofs.PinChecks.{done_bounds}
use Rattle.shunt.proofs.laws.check_pinned_bounds_every_plan.Goals as goal

pub returns : goal.returns
returns c = done_bounds c.reasons.ensures.verdict c.reasons.ensures.bound
