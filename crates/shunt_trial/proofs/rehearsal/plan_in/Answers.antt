use Rattle.std.proofs.Common.{inl, refl}
use Rattle.shunt_trial.proofs.Sure.{no_fault, plan_sure, plan_found, put_them}
use Rattle.shunt_trial.proofs.rehearsal.plan_in.Goals as goal

pub sure-requires : goal.sure-requires
sure-requires c =
    plan_sure c.args.store.now.files c.args.station.now c.args.timetable.now c.args.nodes c.args.plan.now c.args.certificate.now c.requires.night.0 c.requires.night.1 _ _
    c.reply_to_plan.result
    (no_fault c.reply_to_plan.result c.reply_to_plan.ensures.cause) (c.reply_to_plan.ensures.leads _ (inl refl))

pub returns-clause-found : goal.returns-clause-found
returns-clause-found c = λ night is.
    plan_found c.args.store.now.files c.args.station.now c.args.timetable.now c.args.nodes c.args.plan.now c.args.certificate.now night is _ _ _ _ c.reply_to_plan.result
    c.in_ok-answer.answer
    c.in_ok-answer.ensures (c.reply_to_plan.ensures.leads _ (inl refl)) (put_them _ _ _ _ c.deref.ensures.value c.in_ok-put_all.ensures.files)
