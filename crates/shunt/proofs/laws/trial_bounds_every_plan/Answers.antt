use Rattle.shunt.proofs.Trials.{MadeLaws, done_bounded}
use Rattle.shunt.proofs.laws.trial_bounds_every_plan.Goals as goal

pub returns : goal.returns
returns c =
    let laws : MadeLaws = record { station = c.made_nights.ensures.station; timetable = c.made_nights.ensures.timetable } in
    λ n u m s t p k. done_bounded n u m s t p k c.proved_bounds.ensures.accepted laws
