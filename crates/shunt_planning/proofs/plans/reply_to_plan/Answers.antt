use Rattle.std.proofs.Common.{[], ◌∷◌, get_or, Err}
use Rattle.shunt_instance.specs.defs.Instance.{Night}
use Rattle.shunt_rows.specs.declared.words.FileWord.TheVariants as word
use Rattle.shunt_inputs.proofs.Heard.{heard_first}
use Rattle.shunt_inputs.proofs.Stated.{cause_later}
use Rattle.shunt_inputs.proofs.HeardSteps.{first_still, hears_all, view_still}
use Rattle.shunt_inputs.specs.defs.Inputs.{stated_night}
use Rattle.shunt_inputs.specs.defs.Writes.{known}
use Rattle.shunt_planning.specs.defs.Planned.{IsSought}
use Rattle.shunt_planning.proofs.Sought.{found_over, refused_over}
use Rattle.shunt_planning.proofs.plans.reply_to_plan.Goals as goal

pub returns-in_err-instance-clause-leads : goal.returns-in_err-instance-clause-leads
returns-in_err-instance-clause-leads g c = λ view seen.
    let S = g.S.Store in
    refused_over {X = Night} view (known (S.told c.args.store.now) (S.stored c.args.store.now)) (c.args.station.now ∷ c.args.timetable.now ∷ [])
    (c.args.plan.now ∷ c.args.certificate.now ∷ []) (λ bs. stated_night (get_or bs 0 []) (get_or bs 1 []))
    (IsSought c.args.nodes c.args.plan.now c.args.certificate.now) c.requires.names
    (known (S.told c.load.new.store) (S.stored c.load.new.store)) c.from_residual.result _ c.from_residual.ensures
    (c.in_err-instance.ensures.files, c.in_err-instance.ensures.stored)
    (c.in_err-instance.ensures.told view seen)

pub returns-clause-leads : goal.returns-clause-leads
returns-clause-leads g c = λ view seen.
    let S = g.S.Store in
    found_over {X = Night} view (known (S.told c.args.store.now) (S.stored c.args.store.now)) (c.args.station.now ∷ c.args.timetable.now ∷ [])
    (c.args.plan.now ∷ c.args.certificate.now ∷ []) (λ bs. stated_night (get_or bs 0 []) (get_or bs 1 []))
    (IsSought c.args.nodes c.args.plan.now c.args.certificate.now) c.requires.names _ (known (S.told c.load.new.store) (S.stored c.load.new.store))
    (known (S.told c.night_answer.new.store) (S.stored c.night_answer.new.store)) (c.in_ok-instance.ensures.files, c.in_ok-instance.ensures.stored)
    (c.in_ok-instance.ensures.told view (view_still _ _ _ _ view c.night_answer.ensures.heard seen)) c.night_answer.result c.night_answer.ensures.leads

pub returns-clause-cause : goal.returns-clause-cause
returns-clause-cause g c = cause_later _ _ _ _ c.in_ok-instance.ensures.cause.later c.night_answer.ensures.cause

pub returns-clause-first : goal.returns-clause-first
returns-clause-first g c = first_still _ _ _ _ c.night_answer.ensures.heard (hears_all _ _ _ c.in_ok-instance.ensures.heard)

pub returns-in_err-instance-clause-first : goal.returns-in_err-instance-clause-first
returns-in_err-instance-clause-first g c = heard_first {X = Night} ((word.Station, c.args.station.now) ∷ (word.Timetable, c.args.timetable.now) ∷ []) _ _
    (Err c.in_err-instance.field-0.0) c.in_err-instance.ensures.heard
