use Rattle.shunt.specs.defs.Calls.{MakePlan}
use Rattle.shunt.proofs.Searched.{TreeLaws, unfinished_bounded}
use Rattle.shunt.proofs.Planned.{plan_search, plan_answers}
use Rattle.shunt.proofs.search_laws.plan_is_unfinished.Goals as goal

pub returns : goal.returns
returns c =
    let laws : TreeLaws = record { exactly = c.trees_by_version.ensures.exactly; partial = c.few_nodes.ensures.partial; one = c.known_by_paths.ensures.one } in
    λ s t m p k. unfinished_bounded (MakePlan s t m p k) (plan_search s t m p k) (plan_answers s t m p k) c.proved_bounds.ensures.accepted laws
