use Rattle.shunt_rows.proofs.KeptStates.{given}
use Rattle.shunt_plan.specs.defs.Plans.{IsPlanInRange}
use Rattle.shunt_plan.proofs.Formed.{plan_formed}
use Rattle.shunt_plan.proofs.plan.read_plan.Goals as goal

pub returns-clause-in_range : goal.returns-clause-in_range
returns-clause-in_range c = given (λ p. p) (IsPlanInRange c.args.instance.now) _ (plan_formed c.args.instance.now _) c.read.result c.read.ensures
