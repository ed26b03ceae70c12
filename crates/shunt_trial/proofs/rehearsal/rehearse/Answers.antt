use Rattle.std.proofs.Common.{◌∙◌}
use Rattle.shunt_trial.proofs.Left.{TextLaws, checkable}
use Rattle.shunt_trial.proofs.Rehearsals.{proved_in}
use Rattle.shunt_trial.proofs.Sure.{both_told}
use Rattle.shunt_trial.proofs.rehearsal.rehearse.Goals as goal

pub judge_in-requires-clause-proved : goal.judge_in-requires-clause-proved
judge_in-requires-clause-proved c =
    let laws : TextLaws = record {
      plan_again = c.texts_of_plans.ensures.again;
      plan_short = c.texts_of_plans.ensures.short;
      certificate_again =
          c.texts_of_certificates.ensures.again;
    } in
    let night = c.requires.night.0 in
    let found = c.in_ok-text.ensures.found night c.requires.night.1 in (
      checkable night found.0 found.1,
      proved_in laws c.args.station.now c.args.timetable.now c.args.plan.now c.args.certificate.now c.requires.names c.args.store.now.files _ night
          c.requires.night.1 c.args.nodes found.0 found.1 found.2 found.3,
    )

pub returns : goal.returns
returns c =
    let laws : TextLaws = record {
      plan_again = c.texts_of_plans.ensures.again;
      plan_short = c.texts_of_plans.ensures.short;
      certificate_again =
          c.texts_of_certificates.ensures.again;
    } in
    λ night is.
    let found = c.in_ok-text.ensures.found night is in
    let fit = found.2 in
    let files = found.3 in
    let proved = proved_in laws c.args.station.now c.args.timetable.now c.args.plan.now c.args.certificate.now c.requires.names c.args.store.now.files _ night is c.args.nodes
    found.0 found.1 fit files in (
      found.0,
      found.1,
      fit,
      c.in_ok-judged.ensures.files ∙ files,
      both_told _ _ _ _ _ _ found.4
          (c.in_ok-judged.ensures.told (checkable night found.0 found.1) proved) c.deref.ensures.value c.in_ok-extend_from_slice.ensures.items,
    )
