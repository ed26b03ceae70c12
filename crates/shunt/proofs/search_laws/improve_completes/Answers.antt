use Rattle.shunt.proofs.Improved.{ImproveLaws, improve_done, improve_ends, never_no_matching}
use Rattle.shunt.proofs.search_laws.improve_completes.Goals as goal

pub returns-clause-done : goal.returns-clause-done
returns-clause-done c =
    let laws : ImproveLaws = record { usable = c.pins.ensures.usable; none = c.plan_findings.ensures.none; matching = c.kept_matchings.ensures.some } in
    λ s t i h m p k. improve_done laws s t i h m p k

pub returns-clause-ends : goal.returns-clause-ends
returns-clause-ends c =
    let laws : ImproveLaws = record { usable = c.pins.ensures.usable; none = c.plan_findings.ensures.none; matching = c.kept_matchings.ensures.some } in
    λ s t i h m p k. improve_ends laws s t i h m p k

pub returns-clause-no_matching : goal.returns-clause-no_matching
returns-clause-no_matching c =
    let laws : ImproveLaws = record { usable = c.pins.ensures.usable; none = c.plan_findings.ensures.none; matching = c.kept_matchings.ensures.some } in
    λ s t i h m p k. never_no_matching laws s t i h m p k
