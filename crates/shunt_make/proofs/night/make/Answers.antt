use Rattle.std.proofs.Common.{ℕ, ap, ◌∙◌}
use Rattle.shunt_make.specs.defs.Made.{after_station, timetable_of}
use Rattle.shunt_make.proofs.Built.{night_made, tracks_made, arriving_made, departing_made}
use Rattle.shunt_make.proofs.night.make.Goals as goal

pub returns-clause-formed : goal.returns-clause-formed
returns-clause-formed c =
    let n = night_made c.args.number c.args.units c.in_ok-station.station c.in_ok-timetable.timetable c.requires.units c.in_ok-station.ensures.made
    (c.in_ok-timetable.ensures ∙ ap (λ (x : ℕ). timetable_of x c.args.units) c.in_ok-station.ensures.state) in
    (n.0, n.1)

pub returns-clause-matching : goal.returns-clause-matching
returns-clause-matching c = (night_made c.args.number c.args.units c.in_ok-station.station c.in_ok-timetable.timetable c.requires.units c.in_ok-station.ensures.made
    (c.in_ok-timetable.ensures ∙ ap (λ (x : ℕ). timetable_of x c.args.units) c.in_ok-station.ensures.state)).2

pub returns-clause-tracks : goal.returns-clause-tracks
returns-clause-tracks c = tracks_made c.args.number c.args.units c.in_ok-station.station c.in_ok-station.ensures.made

pub returns-clause-arriving : goal.returns-clause-arriving
returns-clause-arriving c = arriving_made (after_station c.args.number c.args.units) c.args.units c.in_ok-timetable.timetable
    (c.in_ok-timetable.ensures ∙ ap (λ (x : ℕ). timetable_of x c.args.units) c.in_ok-station.ensures.state)

pub returns-clause-departing : goal.returns-clause-departing
returns-clause-departing c = departing_made (after_station c.args.number c.args.units) c.args.units c.in_ok-timetable.timetable
    (c.in_ok-timetable.ensures ∙ ap (λ (x : ℕ). timetable_of x c.args.units) c.in_ok-station.ensures.state)
