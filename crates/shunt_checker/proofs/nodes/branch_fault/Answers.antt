use Rattle.std.proofs.Common.{refl, sym, subst, ◌∙◌}
use Rattle.shunt_choices.specs.defs.Choices.{longer_by}
use Rattle.shunt_proof.specs.defs.Versions.{IsStepBoundIn}
use Rattle.shunt_checker.specs.defs.Misses.{IsMissed}
use Rattle.shunt_checker.proofs.Seen.{seen_word}
use Rattle.shunt_checker.proofs.Lowness.{step_laws}
use Rattle.shunt_checker.proofs.BranchReasons.{missed_choice, missed_free, none_next, none_missed, first_missed}
use Rattle.shunt_checker.proofs.nodes.branch_fault.Goals as goal

pub missed_at-requires-clause-next : goal.missed_at-requires-clause-next
missed_at-requires-clause-next c = sym c.next_unit.ensures ∙ c.in-Some.is

pub offer_bound-requires-clause-next : goal.offer_bound-requires-clause-next
offer_bound-requires-clause-next c = sym c.next_unit.ensures ∙ c.in-Some.is

pub offer_bound-requires-clause-there : goal.offer_bound-requires-clause-there
offer_bound-requires-clause-there c =
    let night = c.args.instance.now in
    let path = c.args.path.now in
    let cert = c.args.certificate.now in
    missed_free night path.covered path.blocks c.args.cases.now cert c.args.k c.in-Some.u c.in-Some-missed.offer
    (missed_choice night path.covered (IsMissed cert.version night path.blocks c.args.cases.now cert.nodes c.args.k cert.bound) c.in-Some.u c.in_ok-missed.missed
    c.in-Some-missed.offer c.in-Some-missed.is c.in_ok-missed.ensures)

pub offer_bound-requires-clause-longer : goal.offer_bound-requires-clause-longer
offer_bound-requires-clause-longer c =
    let night = c.args.instance.now in
    let path = c.args.path.now in
    let cert = c.args.certificate.now in
    let is = missed_choice night path.covered (IsMissed cert.version night path.blocks c.args.cases.now cert.nodes c.args.k cert.bound) c.in-Some.u c.in_ok-missed.missed
    c.in-Some-missed.offer c.in-Some-missed.is c.in_ok-missed.ensures in
    is.free.holds.through

pub returns-in_default-clause-found : goal.returns-in_default-clause-found
returns-in_default-clause-found c =
    none_next c.args.instance.now c.args.certificate.now c.args.k c.args.path.now.blocks c.args.cases.now c.requires.duals c.requires.kind c.args.path.now.covered
    c.requires.path.covered
    (sym c.next_unit.ensures ∙ c.in_default.is)

pub returns-in_default-missed-clause-found : goal.returns-in_default-missed-clause-found
returns-in_default-missed-clause-found c =
    none_missed c.args.instance.now c.args.certificate.now c.args.k c.args.path.now.blocks c.args.cases.now c.requires.duals c.requires.kind c.args.path.now.covered
    c.requires.path.covered
    (λ s k within lt. c.places.ensures.unit c.args.instance.now s k within lt)
    (step_laws c.args.instance.now c.bounds.ensures.there (λ path b cases bound. c.bounds_by_version.ensures.choice c.args.instance.now path b cases bound)
    (λ path b cases k x y is so. c.one_gain.ensures.choice_sum c.args.instance.now path b cases k x y is so)) c.in-Some.u
    (sym c.next_unit.ensures ∙ c.in-Some.is) c.in_ok-missed.missed c.in_ok-missed.ensures c.in_default-missed.is

pub returns-clause-found : goal.returns-clause-found
returns-clause-found c =
    let night = c.args.instance.now in
    first_missed night c.args.certificate.now c.args.k c.args.path.now.blocks c.args.cases.now c.requires.duals c.requires.kind c.args.path.now.covered c.requires.path.covered
    (λ s k within lt. c.places.ensures.unit night s k within lt)
    (step_laws night c.bounds.ensures.there (λ path b cases bound. c.bounds_by_version.ensures.choice night path b cases bound)
    (λ path b cases k x y is so. c.one_gain.ensures.choice_sum night path b cases k x y is so)) c.in-Some.u
    (sym c.next_unit.ensures ∙ c.in-Some.is) c.in_ok-missed.missed c.in_ok-missed.ensures
    c.in-Some-missed.offer (longer_by c.args.path.now.blocks c.in-Some-missed.offer) c.stated_in-choice.result _ c.in-Some-missed.is refl c.stated_in-choice.ensures
    (subst (IsStepBoundIn c.args.certificate.now.version night c.args.path.now.blocks (longer_by c.args.path.now.blocks c.in-Some-missed.offer) c.args.cases.now)
    (sym (seen_word c.in_ok-bound.bound c.in_ok-bound.ensures.word)) c.in_ok-bound.ensures.is)
