use Rattle.shunt.specs.defs.Calls.{MakePlan}
use Rattle.shunt.proofs.Searched.{done_cheapest}
use Rattle.shunt.proofs.Planned.{plan_search, plan_answers}
use Rattle.shunt.proofs.search_laws.plan_is_cheapest.Goals as goal

pub returns : goal.returns
returns c = λ s t m p k. done_cheapest (MakePlan s t m p k) (plan_search s t m p k) (plan_answers s t m p k) c.proved_bounds.ensures.accepted
