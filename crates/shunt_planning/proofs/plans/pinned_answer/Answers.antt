use Rattle.std.proofs.Common.{refl, inl, inr, subst}
use Rattle.shunt_blocks.specs.defs.Pins.{AreUsable}
use Rattle.shunt_inputs.specs.declared.pins.Pinned.{Pinned}
use Rattle.shunt_inputs.specs.defs.Replies.{reply_of}
use Rattle.shunt_inputs.proofs.FirstFiles.{leads_with, none_first}
use Rattle.shunt_inputs.specs.defs.Writes.{known}
use Rattle.shunt_planning.specs.defs.Planned.{IsPinned, IsSoughtBeside}
use Rattle.shunt_planning.proofs.plans.pinned_answer.Goals as goal
use Rattle.shunt_judging.specs.defs.Pins.{IsUnusable, PinFaults}

pub usable_answer-requires-clause-usable : goal.usable_answer-requires-clause-usable
usable_answer-requires-clause-usable g c = subst (PinFaults c.args.instance.now c.args.pins.now) c.in-Ok-None.field-0-is c.in-Ok-None.ensures

pub returns-in-Ok-Some-clause-leads : goal.returns-in-Ok-Some-clause-leads
returns-in-Ok-Some-clause-leads g c =
    let x : Pinned = record { instance = c.args.instance.now; pins = c.args.pins.now } in
    let faults : IsUnusable c.args.instance.now c.args.pins.now (reply_of c.in-Ok-Some.answer) = subst
    (PinFaults c.args.instance.now c.args.pins.now) c.in-Ok-Some.field-0-is c.in-Ok-Some.ensures in
    none_first (IsPinned c.args.nodes c.args.plan.now c.args.certificate.now x) _ _ _ (refl, refl) (inl faults)

pub returns-in-Ok-None-clause-leads : goal.returns-in-Ok-None-clause-leads
returns-in-Ok-None-clause-leads g c =
    let S = g.S.Store in
    let night = c.args.instance.now in
    let pins = c.args.pins.now in
    let x : Pinned = record { instance = night; pins = pins } in
    let usable : AreUsable night pins = subst (PinFaults night pins) c.in-Ok-None.field-0-is c.in-Ok-None.ensures in
    leads_with (IsSoughtBeside pins c.args.nodes c.args.plan.now c.args.certificate.now night) (IsPinned c.args.nodes c.args.plan.now c.args.certificate.now x)
    (known (S.told c.args.store.now) (S.stored c.args.store.now)) (known (S.told c.usable_answer.new.store) (S.stored c.usable_answer.new.store)) c.usable_answer.result
    (λ r is. inr (usable, is)) c.usable_answer.ensures.leads
