use Rattle.std.proofs.Common.{refl, inl, inr, subst, Some}
use Rattle.shunt_instance.specs.defs.Matching.{unit_entries, position_entries}
use Rattle.shunt_blocks.specs.defs.Lists.{units_taken, positions_taken}
use Rattle.shunt_matching.specs.defs.Nights.{HasMatching}
use Rattle.shunt_inputs.proofs.FirstFiles.{leads_with, none_first}
use Rattle.shunt_inputs.specs.defs.Writes.{known}
use Rattle.shunt_planning.specs.defs.Planned.{IsPlannedAt, IsSoughtBeside, Lacks}
use Rattle.shunt_planning.proofs.plans.sought_answer.Goals as goal

pub shortage_answer-requires : goal.shortage_answer-requires
shortage_answer-requires g c =
    let night = c.args.instance.now in
    let lacks : Lacks night (units_taken night c.args.pins.now) (positions_taken night c.args.pins.now) (Some c.in-Some.short) = subst
    (Lacks night (units_taken night c.args.pins.now) (positions_taken night c.args.pins.now)) c.in-Some.is c.requires.lacks in
    lacks.2

pub search_answer-requires-clause-matching : goal.search_answer-requires-clause-matching
search_answer-requires-clause-matching g c = λ s is.
    let night = c.args.instance.now in
    let units = units_taken night c.args.pins.now in
    let places = positions_taken night c.args.pins.now in
    let some : HasMatching night units places = subst (Lacks night units places) c.in-None.is c.requires.lacks in
    c.one_shortage.ensures.never (unit_entries night) (position_entries night) units places s is some.0 some.1

pub returns-in-Ok-clause-leads : goal.returns-in-Ok-clause-leads
returns-in-Ok-clause-leads g c =
    let night = c.args.instance.now in
    let pins = c.args.pins.now in
    let lacks : Lacks night (units_taken night pins) (positions_taken night pins) (Some c.in-Some.short) = subst
    (Lacks night (units_taken night pins) (positions_taken night pins)) c.in-Some.is c.requires.lacks in
    none_first (IsSoughtBeside pins c.args.nodes c.args.plan.now c.args.certificate.now night) _ _ _ (refl, refl)
    (inr (record { none = lacks.0; reply = (c.in-Some.short, lacks.1, c.in-Ok.ensures) }))

pub returns-in-None-clause-leads : goal.returns-in-None-clause-leads
returns-in-None-clause-leads g c =
    let S = g.S.Store in
    let night = c.args.instance.now in
    let pins = c.args.pins.now in
    let units = units_taken night pins in
    let places = positions_taken night pins in
    let some : HasMatching night units places = subst (Lacks night units places) c.in-None.is c.requires.lacks in
    leads_with (IsPlannedAt _ pins c.args.nodes c.args.plan.now c.args.certificate.now night) (IsSoughtBeside pins c.args.nodes c.args.plan.now c.args.certificate.now night)
    (known (S.told c.args.store.now) (S.stored c.args.store.now)) (known (S.told c.search_answer.new.store) (S.stored c.search_answer.new.store)) c.search_answer.result
    (λ r is. inl (some, is.planned)) c.search_answer.ensures.leads
