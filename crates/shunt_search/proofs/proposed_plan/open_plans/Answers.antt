use Rattle.shunt_search.proofs.Lowest.{open_partial}
use Rattle.shunt_search.proofs.proposed_plan.open_plans.Goals as goal

pub returns : goal.returns
returns c = λ version night pins path cases best child partial «open». open_partial c.plans_grow.ensures.grows night pins path child.block partial «open».next «open».through
