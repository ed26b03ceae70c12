use Rattle.std.proofs.Common.{◌∙◌, sym, subst, ap}
use Rattle.std.specs.Prelude.{All}
use Rattle.shunt_audit.specs.defs.Findings.{IsOfNight}
use Rattle.shunt_plan.specs.defs.Plans.{IsPlanInRange}
use Rattle.shunt_report.specs.defs.FindingTexts.{findings_of}
use Rattle.shunt_judging.specs.defs.Replayed.{Replayable}
use Rattle.shunt_judging.specs.defs.Audited.{audit_outcome}
use Rattle.shunt_judging.proofs.Answered.{of_its_night, replied}
use Rattle.shunt_judging.proofs.replay.replay_answer.Goals as goal

pub findings_text-requires : goal.findings_text-requires
findings_text-requires c =
    let x : Replayable = record { night = c.args.instance.now; plan = c.args.plan.now; turns = c.args.turns.now } in
    subst (All (IsOfNight c.args.instance.now)) (sym c.deref.ensures.value) (of_its_night x _ _ c.in_ok-bench.ensures c.in_ok-text.ensures.bench
    (λ night. All (IsOfNight night) c.in_ok-findings.findings.items) c.in_ok-findings.ensures.of_night)

pub write_plan-requires : goal.write_plan-requires
write_plan-requires c =
    let x : Replayable = record { night = c.args.instance.now; plan = c.args.plan.now; turns = c.args.turns.now } in
    of_its_night x _ _ c.in_ok-bench.ensures c.in_ok-text.ensures.bench (λ night. IsPlanInRange night c.in_ok-last.last) c.in_ok-last.ensures.in_range

pub returns : goal.returns
returns c =
    let x : Replayable = record { night = c.args.instance.now; plan = c.args.plan.now; turns = c.args.turns.now } in
    replied x _ _ c.in_ok-bench.ensures c.in_ok-text.ensures.bench c.args.new_plan.now c.in_ok-last.last c.in_ok-findings.findings.items c.outcome_of.result _ _ _ _ _
    c.in_ok-text.ensures.text c.in_ok-last.ensures.blocks
    c.in_ok-last.ensures.cost c.in_ok-findings.ensures.told (c.deref-2.ensures.value ∙ c.in_ok-findings_text.ensures
    ∙ ap (λ fs. findings_of c.args.instance.now fs c.in_ok-last.last.cost) c.deref.ensures.value)
    c.in_ok-extend_from_slice.ensures.items (c.outcome_of.ensures ∙ ap audit_outcome c.deref-3.ensures.value) c.in_ok-write_plan.ensures.text c.in_ok-one_file.ensures
