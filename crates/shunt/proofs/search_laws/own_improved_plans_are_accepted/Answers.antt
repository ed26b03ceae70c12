use Rattle.shunt_trial.proofs.Left.{TextLaws}
use Rattle.shunt.proofs.Improved.{ImproveLaws}
use Rattle.shunt.proofs.OwnPinned.{improved_accepted}
use Rattle.shunt.proofs.search_laws.own_improved_plans_are_accepted.Goals as goal

pub returns : goal.returns
returns c =
    let texts : TextLaws = record {
      plan_again = c.texts_of_plans.ensures.again;
      plan_short = c.texts_of_plans.ensures.short;
      certificate_again =
          c.texts_of_certificates.ensures.again;
    } in
    let laws : ImproveLaws = record { usable = c.pins.ensures.usable; none = c.plan_findings.ensures.none; matching = c.kept_matchings.ensures.some } in
    λ s t i h m p k old mid before new first x files usable made is told known ends.
    improved_accepted laws c.reasons.ensures.verdict texts s t i h m p k usable old mid files told before new first x made is known ends
