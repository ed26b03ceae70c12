use Rattle.shunt.specs.defs.Calls.{MakePinned}
use Rattle.shunt.proofs.Searched.{TreeLaws, unfinished_bounded}
use Rattle.shunt.proofs.Planned.{pinned_search, pinned_answers}
use Rattle.shunt.proofs.search_laws.pinned_is_unfinished.Goals as goal

pub returns : goal.returns
returns c =
    let laws : TreeLaws = record { exactly = c.trees_by_version.ensures.exactly; partial = c.few_nodes.ensures.partial; one = c.known_by_paths.ensures.one } in
    λ s t i m p k. unfinished_bounded (MakePinned s t i m p k) (pinned_search s t i m p k) (pinned_answers c.pins.ensures.usable s t i m p k) c.proved_bounds.ensures.accepted laws
