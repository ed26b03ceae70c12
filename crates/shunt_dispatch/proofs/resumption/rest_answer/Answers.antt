use Rattle.std.proofs.Common.{List, refl, sym, subst, ap, ◌∙◌}
use Rattle.shunt_rows.specs.defs.Records.{text_of_rows}
use Rattle.shunt_instance.specs.declared.records.Station.{Station}
use Rattle.shunt_instance.specs.declared.records.Timetable.{Timetable}
use Rattle.shunt_instance.specs.defs.Wellformed.{IsTimetable}
use Rattle.shunt_timetable.specs.defs.WrittenRows.{rows_of}
use Rattle.shunt_blocks.specs.declared.records.Block.{Block}
use Rattle.shunt_plan.specs.defs.PinsRows.{rows_of_pins}
use Rattle.shunt_resume.specs.defs.Resumed.{gone}
use Rattle.shunt_dispatch.proofs.Rests.{next_is, next_formed, rest_writes, rest_line}
use Rattle.shunt_dispatch.proofs.resumption.rest_answer.Goals as goal

pub write_timetable-requires-clause-timetable : goal.write_timetable-requires-clause-timetable
write_timetable-requires-clause-timetable c =
    subst (λ (s : Station). IsTimetable s c.in_ok-next.next) (sym c.station.ensures.exact)
    (next_formed c.args.night.now.instance c.args.night.now.timetable c.in_ok-next.next _ _ _ c.as_slice-blocks.ensures c.in_ok-next.ensures c.resumed_timetables.ensures.formed
    c.requires.night c.requires.station c.requires.timetable c.requires.feasible)

pub rest_text-requires-clause-few : goal.rest_text-requires-clause-few
rest_text-requires-clause-few c =
    (next_formed c.args.night.now.instance c.args.night.now.timetable c.in_ok-next.next _ _ _ c.as_slice-blocks.ensures c.in_ok-next.ensures c.resumed_timetables.ensures.formed
    c.requires.night c.requires.station c.requires.timetable c.requires.feasible).arrive.few

pub rest_text-requires-clause-runs : goal.rest_text-requires-clause-runs
rest_text-requires-clause-runs c =
    c.resumed_timetables.ensures.few c.args.night.now.instance.station c.in_ok-next.next
    (next_formed c.args.night.now.instance c.args.night.now.timetable c.in_ok-next.next _ _ _ c.as_slice-blocks.ensures c.in_ok-next.ensures c.resumed_timetables.ensures.formed
    c.requires.night c.requires.station c.requires.timetable c.requires.feasible)

pub returns : goal.returns
returns c =
    let night = c.args.night.now.instance in
    let m = c.args.question.now.0 in
    let next = next_is night c.args.night.now.timetable c.in_ok-next.next m c.args.plan.now.blocks _ c.as_slice-blocks.ensures c.in_ok-next.ensures in
    let pins = c.as_slice-pins.ensures.value ∙ c.in_ok-left.ensures.exact ∙ ap (λ (bs : List Block). gone night m bs) c.as_slice-blocks.ensures in
    record {
      none = c.requires.none;
      outcome = refl;
      writes = rest_writes _ c.in_ok-first.first c.in_ok-second.second _ _ _ _ _ _ c.in_ok-two_files.ensures c.in_ok-first.ensures c.in_ok-second.ensures
          (c.in_ok-written.ensures.text ∙ ap (λ (s : Station). text_of_rows (rows_of s c.in_ok-next.next)) c.station.ensures.exact
          ∙ ap (λ (t : Timetable). text_of_rows (rows_of night.station t)) next)
          (c.in_ok-write_pins.ensures.text ∙ ap (λ (bs : List Block). text_of_rows (rows_of_pins night bs)) pins);
      text = rest_line m _ _ _ _ _ c.in_ok-rest_text.ensures next pins;
    }
