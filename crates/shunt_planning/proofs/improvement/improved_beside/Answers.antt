use Rattle.std.proofs.Common.{◌≤◌, List, refl, inl, inr, sym, subst}
use Rattle.shunt_blocks.specs.declared.records.Block.{Block}
use Rattle.shunt_blocks.specs.defs.Lists.{IsFeasible, total_cost}
use Rattle.shunt_blocks.specs.defs.Pins.{Keeps}
use Rattle.shunt_inputs.specs.defs.Replies.{reply_of}
use Rattle.shunt_inputs.specs.defs.Writes.{known}
use Rattle.shunt_inputs.proofs.FirstFiles.{leads_with, none_first}
use Rattle.shunt_planning.specs.defs.Planned.{IsPlannedAt}
use Rattle.shunt_planning.specs.defs.Improved.{FitFaults, IsFit, IsImprovedBeside, IsUnfit}
use Rattle.shunt_planning.proofs.improvement.improved_beside.Goals as goal

pub search_answer-requires-clause-feasible : goal.search_answer-requires-clause-feasible
search_answer-requires-clause-feasible g c =
    let fit : IsFit c.args.instance.now c.args.pins.now c.args.in_hand.now = subst
    (FitFaults c.args.instance.now c.args.pins.now c.args.in_hand.now) c.in-Ok-None.field-0-is c.in-Ok-None.ensures in
    subst (λ (l : List Block). IsFeasible c.args.instance.now l) (sym c.as_slice-blocks.ensures) fit.feasible

pub search_answer-requires-clause-keeps : goal.search_answer-requires-clause-keeps
search_answer-requires-clause-keeps g c =
    let fit : IsFit c.args.instance.now c.args.pins.now c.args.in_hand.now = subst
    (FitFaults c.args.instance.now c.args.pins.now c.args.in_hand.now) c.in-Ok-None.field-0-is c.in-Ok-None.ensures in
    subst (λ (l : List Block). Keeps l c.args.pins.now) (sym c.as_slice-blocks.ensures) fit.keeps

pub search_answer-requires-clause-matching : goal.search_answer-requires-clause-matching
search_answer-requires-clause-matching g c = λ s is.
    let fit : IsFit c.args.instance.now c.args.pins.now c.args.in_hand.now = subst
    (FitFaults c.args.instance.now c.args.pins.now c.args.in_hand.now) c.in-Ok-None.field-0-is c.in-Ok-None.ensures in
    c.kept_matchings.ensures.no_shortage c.args.instance.now c.args.pins.now c.args.in_hand.now.blocks s fit.feasible fit.keeps is

pub returns-in-Ok-Some-clause-leads : goal.returns-in-Ok-Some-clause-leads
returns-in-Ok-Some-clause-leads g c =
    let night = c.args.instance.now in
    let pins = c.args.pins.now in
    let in_hand = c.args.in_hand.now in
    let unfit : IsUnfit night pins in_hand (reply_of c.in-Ok-Some.answer) = subst (FitFaults night pins in_hand) c.in-Ok-Some.field-0-is c.in-Ok-Some.ensures in
    none_first (IsImprovedBeside pins in_hand c.args.nodes c.args.plan.now c.args.certificate.now night) _ _ _ (refl, refl) (inl unfit)

pub returns-in-Ok-None-clause-leads : goal.returns-in-Ok-None-clause-leads
returns-in-Ok-None-clause-leads g c =
    let S = g.S.Store in
    let night = c.args.instance.now in
    let pins = c.args.pins.now in
    let in_hand = c.args.in_hand.now in
    let fit : IsFit night pins in_hand = subst (FitFaults night pins in_hand) c.in-Ok-None.field-0-is c.in-Ok-None.ensures in
    leads_with (IsPlannedAt (λ cost. cost ≤ total_cost night c.as_slice-blocks.result.now) pins c.args.nodes c.args.plan.now c.args.certificate.now night)
    (IsImprovedBeside pins in_hand c.args.nodes c.args.plan.now c.args.certificate.now night)
    (known (S.told c.args.store.now) (S.stored c.args.store.now)) (known (S.told c.search_answer.new.store) (S.stored c.search_answer.new.store)) c.search_answer.result
    (λ r is. inr (fit, record { planned = is.planned; cost = subst (λ (l : List Block). is.planned.plan.cost ≤ total_cost night l) c.as_slice-blocks.ensures is.cost }))
    c.search_answer.ensures.leads
