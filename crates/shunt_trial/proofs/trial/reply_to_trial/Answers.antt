use Rattle.std.proofs.Common.{[], ◌∷◌, refl, inl}
use Rattle.shunt_trial.specs.defs.Tried.{made_night}
use Rattle.shunt_trial.proofs.Left.{names_apart}
use Rattle.shunt_trial.proofs.Sure.{joined}
use Rattle.shunt_trial.proofs.Rehearsals.{answer_is}
use Rattle.shunt_trial.proofs.trial.reply_to_trial.Goals as goal

pub made_store-requires-clause-apart : goal.made_store-requires-clause-apart
made_store-requires-clause-apart c = names_apart (c.args.station.now ∷ []) (c.args.timetable.now ∷ c.args.plan.now ∷ c.args.certificate.now ∷ []) c.args.station.now
    c.args.timetable.now c.requires.names (inl refl) (inl refl)

pub rehearse-requires-clause-night : goal.rehearse-requires-clause-night
rehearse-requires-clause-night c = (made_night c.args.number c.args.units, c.in_ok-store.ensures.night)

pub returns : goal.returns
returns c =
    let night = made_night c.args.number c.args.units in
    answer_is c.args.number c.args.units c.args.nodes c.args.station.now c.args.timetable.now c.args.plan.now c.args.certificate.now c.requires.names _ _ _ _ _ _
    c.in_ok-store.ensures.files c.in_ok-store.ensures.line (joined _ _ _ _ c.deref.ensures.value c.in_ok-extend_from_slice.ensures.items) c.in_ok-files_of.ensures
    (c.in_ok-told.ensures night c.in_ok-store.ensures.night)
