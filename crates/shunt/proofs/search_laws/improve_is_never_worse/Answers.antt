use Rattle.shunt_inputs.specs.declared.answers.Outcome.TheVariants as outcome
use Rattle.shunt.proofs.Improved.{ImproveLaws, never_worse}
use Rattle.shunt.proofs.search_laws.improve_is_never_worse.Goals as goal

pub returns-clause-done : goal.returns-clause-done
returns-clause-done c =
    let laws : ImproveLaws = record { usable = c.pins.ensures.usable; none = c.plan_findings.ensures.none; matching = c.kept_matchings.ensures.some } in
    λ s t i h m p k old new. never_worse laws s t i h m p k outcome.Done old new (λ e. cc) (λ e. cc)

pub returns-clause-unfinished : goal.returns-clause-unfinished
returns-clause-unfinished c =
    let laws : ImproveLaws = record { usable = c.pins.ensures.usable; none = c.plan_findings.ensures.none; matching = c.kept_matchings.ensures.some } in
    λ s t i h m p k old new. never_worse laws s t i h m p k outcome.Unfinished old new (λ e. cc) (λ e. cc)
