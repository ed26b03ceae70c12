use Rattle.std.proofs.Common.{◌∙◌, ap}
use Rattle.shunt_make.specs.defs.Made.{after_station, station_of}
use Rattle.shunt_trial.specs.defs.Tried.{made_timetable}
use Rattle.shunt_trial.proofs.Rehearsals.{NightLaws, night_held, same_files, same_line}
use Rattle.shunt_trial.proofs.trial.made_store.Goals as goal

pub returns-clause-files : goal.returns-clause-files
returns-clause-files c = c.in_ok-store.ensures.files ∙ same_files c.args.station.now c.args.timetable.now _ _ _ _ c.in_ok-made_station.ensures.station
    c.in_ok-made_station.ensures.timetable

pub returns-clause-night : goal.returns-clause-night
returns-clause-night c =
    let number = c.args.number in
    let units = c.args.units in
    let laws : NightLaws = record {
      station_again = c.texts_of_stations.ensures.again;
      station_short = c.texts_of_stations.ensures.short;
      timetable_short =
          c.text_of_a_timetable_is_short.ensures;
      rows_again = c.plain_rows_are_read_back.ensures;
    } in
    let few = c.requires.units in
    night_held laws (station_of number units) (made_timetable number units) (c.made_nights.ensures.station number units few)
    (c.made_nights.ensures.timetable number (after_station number units) units few)
    c.args.station.now c.args.timetable.now _ c.requires.apart (c.in_ok-store.ensures.files
    ∙ same_files c.args.station.now c.args.timetable.now _ _ _ _ c.in_ok-made_station.ensures.station c.in_ok-made_station.ensures.timetable)
    (c.made_nights.ensures.matching number (after_station number units) units few)

pub returns-clause-line : goal.returns-clause-line
returns-clause-line c = c.in_ok-line.ensures ∙ same_line c.args.number c.args.units _ _ _ _ c.in_ok-made_station.ensures.station c.in_ok-made_station.ensures.timetable
