use Rattle.shunt.specs.defs.Calls.{Improve}
use Rattle.shunt.proofs.Searched.{findings_there, findings_only}
use Rattle.shunt.proofs.Improved.{ImproveLaws, improve_search, improve_answers}
use Rattle.shunt.proofs.search_laws.improve_findings_exactly.Goals as goal

pub returns-clause-there : goal.returns-clause-there
returns-clause-there c =
    let laws : ImproveLaws = record { usable = c.pins.ensures.usable; none = c.plan_findings.ensures.none; matching = c.kept_matchings.ensures.some } in
    λ s t i h m p k. findings_there (Improve s t i h m p k) (improve_search s t i h m p k) (improve_answers laws s t i h m p k)

pub returns-clause-only : goal.returns-clause-only
returns-clause-only c =
    let laws : ImproveLaws = record { usable = c.pins.ensures.usable; none = c.plan_findings.ensures.none; matching = c.kept_matchings.ensures.some } in
    λ s t i h m p k. findings_only (Improve s t i h m p k) (improve_search s t i h m p k) (improve_answers laws s t i h m p k)
