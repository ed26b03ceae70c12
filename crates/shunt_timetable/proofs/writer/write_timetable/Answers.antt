use Rattle.std.proofs.Common.{◌≡◌, ◌∙◌}
use Rattle.shunt_rows.specs.defs.Records.{text_of_rows}
use Rattle.shunt_rows.proofs.Texts.{if_ok}
use Rattle.shunt_timetable.specs.defs.WrittenRows.{rows_of}
use Rattle.shunt_timetable.proofs.Lengths.{text_wide}
use Rattle.shunt_timetable.proofs.Plain.{timetable_written, rows_read, timetable_read}
use Rattle.shunt_timetable.proofs.writer.write_timetable.Goals as goal

whole : (c : goal.After-finish) → c.write_all_runs.new.writer.text ≡ text_of_rows (rows_of c.args.station.now c.args.timetable.now)
whole c = timetable_written c.args.station.now c.args.timetable.now _ _ _ _ _ _ _ _ _ _ c.requires.timetable c.as_slice.ensures c.as_slice-2.ensures c.as_slice-3.ensures
    c.as_slice-4.ensures
    c.in_ok-writer.ensures c.in_ok-write_first.ensures c.in_ok-write_all_standing.ensures c.in_ok-write_all_moving.ensures c.in_ok-write_all_moving-2.ensures
    c.in_ok-write_all_runs.ensures

pub returns-clause-text : goal.returns-clause-text
returns-clause-text c = if_ok c.finish.result _ _ c.finish.ensures.text (λ v is. is ∙ whole c)

pub returns-clause-rows : goal.returns-clause-rows
returns-clause-rows c = if_ok c.finish.result _ _ c.finish.ensures.again (λ v back.
    rows_read c.args.station.now c.args.timetable.now _ v.items c.requires.station c.requires.timetable (whole c) back)

pub returns-clause-again : goal.returns-clause-again
returns-clause-again c = if_ok c.finish.result _ _ c.finish.ensures.again (λ v back.
    timetable_read c.args.station.now c.args.timetable.now _ v.items c.requires.station c.requires.timetable (whole c) back)

pub returns-clause-short : goal.returns-clause-short
returns-clause-short c = if_ok c.finish.result _ _ c.finish.ensures.text (λ v is. text_wide c.args.station.now c.args.timetable.now v.items c.requires.station c.requires.timetable
    (is ∙ whole c))
