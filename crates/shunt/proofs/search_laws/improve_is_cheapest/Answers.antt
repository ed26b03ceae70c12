use Rattle.shunt.specs.defs.Calls.{Improve}
use Rattle.shunt.proofs.Searched.{done_cheapest}
use Rattle.shunt.proofs.Improved.{ImproveLaws, improve_search, improve_answers}
use Rattle.shunt.proofs.search_laws.improve_is_cheapest.Goals as goal

pub returns : goal.returns
returns c =
    let laws : ImproveLaws = record { usable = c.pins.ensures.usable; none = c.plan_findings.ensures.none; matching = c.kept_matchings.ensures.some } in
    λ s t i h m p k. done_cheapest (Improve s t i h m p k) (improve_search s t i h m p k) (improve_answers laws s t i h m p k) c.proved_bounds.ensures.accepted
