use Rattle.shunt.specs.defs.Calls.{Improve}
use Rattle.shunt.proofs.Searched.{TreeLaws, unfinished_bounded}
use Rattle.shunt.proofs.Improved.{ImproveLaws, improve_search, improve_answers}
use Rattle.shunt.proofs.search_laws.improve_is_unfinished.Goals as goal

pub returns : goal.returns
returns c =
    let laws : ImproveLaws = record { usable = c.pins.ensures.usable; none = c.plan_findings.ensures.none; matching = c.kept_matchings.ensures.some } in
    let tree_laws : TreeLaws = record { exactly = c.trees_by_version.ensures.exactly; partial = c.few_nodes.ensures.partial; one = c.known_by_paths.ensures.one } in
    λ s t i h m p k. unfinished_bounded (Improve s t i h m p k) (improve_search s t i h m p k) (improve_answers laws s t i h m p k) c.proved_bounds.ensures.accepted tree_laws
