use Rattle.std.proofs.Common.{[], ◌∷◌, inl, refl}
use Rattle.shunt_inputs.proofs.SeenFiles.{front_names}
use Rattle.shunt_trial.proofs.Sure.{no_fault, audit_keeps, audit_sure, audit_told}
use Rattle.shunt_trial.proofs.rehearsal.audit_in.Goals as goal

pub reply-requires-clause-names : goal.reply-requires-clause-names
reply-requires-clause-names c = front_names (c.args.station.now ∷ c.args.timetable.now ∷ c.args.plan.now ∷ []) (c.args.certificate.now ∷ []) c.requires.names

pub sure-requires : goal.sure-requires
sure-requires c =
    audit_sure c.args.store.now.files c.args.station.now c.args.timetable.now c.args.plan.now c.args.certificate.now c.requires.proved.0 c.requires.proved.1 _ _ c.reply.result
    (no_fault c.reply.result c.reply.ensures.cause) (c.reply.ensures.leads _ (inl refl))

pub returns-clause-told : goal.returns-clause-told
returns-clause-told c = λ x is.
    audit_told c.args.store.now.files c.args.station.now c.args.timetable.now c.args.plan.now c.args.certificate.now x is c.plan_findings.ensures.none _ _ c.reply.result
    c.in_ok-answer.answer
    c.in_ok-answer.ensures (c.reply.ensures.leads _ (inl refl))

pub returns-in_err-answer-clause-files : goal.returns-in_err-answer-clause-files
returns-in_err-answer-clause-files c =
    audit_keeps c.args.store.now.files c.args.station.now c.args.timetable.now c.args.plan.now c.args.certificate.now c.requires.proved.0 c.requires.proved.1
    c.reply.new.store.files _ _ c.reply.result
    (c.reply.ensures.leads _ (inl refl))

pub returns-clause-files : goal.returns-clause-files
returns-clause-files c =
    audit_keeps c.args.store.now.files c.args.station.now c.args.timetable.now c.args.plan.now c.args.certificate.now c.requires.proved.0 c.requires.proved.1
    c.reply.new.store.files _ _ c.reply.result
    (c.reply.ensures.leads _ (inl refl))
