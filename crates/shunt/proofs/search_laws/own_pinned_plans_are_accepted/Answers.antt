use Rattle.shunt_trial.proofs.Left.{TextLaws}
use Rattle.shunt.proofs.OwnPinned.{accepted}
use Rattle.shunt.proofs.search_laws.own_pinned_plans_are_accepted.Goals as goal

pub returns : goal.returns
returns c =
    let laws : TextLaws = record {
      plan_again = c.texts_of_plans.ensures.again;
      plan_short = c.texts_of_plans.ensures.short;
      certificate_again =
          c.texts_of_certificates.ensures.again;
    } in
    λ s t i m p k old mid before new first x files usable made is told known ends.
    accepted c.pins.ensures.usable c.reasons.ensures.verdict laws s t i m p k usable old mid files told before new first x made is known ends
