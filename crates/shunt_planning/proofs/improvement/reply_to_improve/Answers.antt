use Rattle.std.proofs.Common.{List, [], ◌∷◌, get_or, subst, Err}
use Rattle.shunt_blocks.specs.declared.records.Block.{Block}
use Rattle.shunt_plan.specs.declared.records.Plan.{Plan}
use Rattle.shunt_rows.specs.declared.words.FileWord.TheVariants as word
use Rattle.shunt_inputs.proofs.Heard.{heard_first}
use Rattle.shunt_inputs.proofs.Stated.{cause_later}
use Rattle.shunt_inputs.proofs.HeardSteps.{first_still, hears_all, view_still}
use Rattle.shunt_inputs.specs.declared.pins.Pinned.{Pinned}
use Rattle.shunt_inputs.specs.defs.Inputs.{stated_pinned, stated_plan}
use Rattle.shunt_inputs.specs.defs.ReadFiles.{stated_over}
use Rattle.shunt_inputs.specs.defs.Writes.{LeavesOne, known}
use Rattle.shunt_planning.specs.defs.Improved.{IsImproved}
use Rattle.shunt_planning.proofs.Sought.{found_over, refused_over}
use Rattle.shunt_planning.proofs.improvement.reply_to_improve.Goals as goal

pub returns-in_err-pinned-clause-leads : goal.returns-in_err-pinned-clause-leads
returns-in_err-pinned-clause-leads g c = λ view seen.
    let S = g.S.Store in
    refused_over {X = Pinned × Plan} view (known (S.told c.args.store.now) (S.stored c.args.store.now))
    (c.args.station.now ∷ c.args.timetable.now ∷ c.args.pins.now ∷ c.args.in_hand.now ∷ []) (c.args.plan.now ∷ c.args.certificate.now ∷ [])
    (stated_over 3 (λ bs. stated_pinned (get_or bs 0 []) (get_or bs 1 []) (get_or bs 2 [])) (λ x. stated_plan x.instance))
    (IsImproved c.args.nodes c.args.plan.now c.args.certificate.now) c.requires.names
    (known (S.told c.load.new.store) (S.stored c.load.new.store)) c.from_residual.result _ c.from_residual.ensures
    (c.in_err-pinned.ensures.files, c.in_err-pinned.ensures.stored)
    (c.in_err-pinned.ensures.told view seen)

pub returns-clause-leads : goal.returns-clause-leads
returns-clause-leads g c = λ view seen.
    let S = g.S.Store in
    let pinned = c.in_ok-pinned.pinned in
    let x : List Block → Pinned × Plan = λ pins. (record { instance = pinned.instance; pins = pins }, c.in_ok-pinned.own) in
    found_over {X = Pinned × Plan} view (known (S.told c.args.store.now) (S.stored c.args.store.now))
    (c.args.station.now ∷ c.args.timetable.now ∷ c.args.pins.now ∷ c.args.in_hand.now ∷ []) (c.args.plan.now ∷ c.args.certificate.now ∷ [])
    (stated_over 3 (λ bs. stated_pinned (get_or bs 0 []) (get_or bs 1 []) (get_or bs 2 [])) (λ x. stated_plan x.instance))
    (IsImproved c.args.nodes c.args.plan.now c.args.certificate.now) c.requires.names _ (known (S.told c.load.new.store) (S.stored c.load.new.store))
    (known (S.told c.improved_answer.new.store) (S.stored c.improved_answer.new.store)) (c.in_ok-pinned.ensures.files, c.in_ok-pinned.ensures.stored)
    (c.in_ok-pinned.ensures.told view (view_still _ _ _ _ view c.improved_answer.ensures.heard seen)) c.improved_answer.result
    (subst (λ (pins : List Block). LeavesOne (IsImproved c.args.nodes c.args.plan.now c.args.certificate.now (x pins)) (known (S.told c.load.new.store) (S.stored c.load.new.store))
    (known (S.told c.improved_answer.new.store) (S.stored c.improved_answer.new.store)) c.improved_answer.result)
    c.as_slice-pins.ensures c.improved_answer.ensures.leads)

pub returns-clause-cause : goal.returns-clause-cause
returns-clause-cause g c = cause_later _ _ _ _ c.in_ok-pinned.ensures.cause.later c.improved_answer.ensures.cause

pub returns-clause-first : goal.returns-clause-first
returns-clause-first g c = first_still _ _ _ _ c.improved_answer.ensures.heard (hears_all _ _ _ c.in_ok-pinned.ensures.heard)

pub returns-in_err-pinned-clause-first : goal.returns-in_err-pinned-clause-first
returns-in_err-pinned-clause-first g c =
    heard_first {X = Pinned × Plan} ((word.Station, c.args.station.now) ∷ (word.Timetable, c.args.timetable.now) ∷ (word.Pins, c.args.pins.now) ∷
    (word.Plan, c.args.in_hand.now) ∷ []) _ _ (Err c.in_err-pinned.field-0.0) c.in_err-pinned.ensures.heard
