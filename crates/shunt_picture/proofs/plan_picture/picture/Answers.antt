use Rattle.std.proofs.Common.{◌≤◌, arith, ◌+◌, ◌*◌, ℕ, List, All, map, length, refl, sym, subst, ap, ◌∙◌}
use Rattle.std.specs.List.{range_with_len}
use Rattle.shunt_instance.specs.declared.records.Station.{Station}
use Rattle.shunt_blocks.specs.declared.records.Block.{Block}
use Rattle.shunt_audit.specs.declared.types.Finding.{Finding}
use Rattle.shunt_audit.specs.defs.Plans.{plan_findings}
use Rattle.shunt_picture.specs.declared.records.TrainMark.{TrainMark}
use Rattle.shunt_picture.specs.declared.records.Lane.{Lane}
use Rattle.shunt_picture.specs.defs.Told.{looses_of}
use Rattle.shunt_picture.specs.defs.Marks.{arrive_mark, depart_mark}
use Rattle.shunt_picture.specs.defs.Lanes.{IsLaneOf}
use Rattle.shunt_picture.specs.defs.Pictures.{kind_of}
use Rattle.shunt_picture.specs.defs.Layouts.{kind_width, loose_width, lines_high, trains_high, end_of, AreStacked, AreTrainRows}
use Rattle.shunt_picture.specs.declared.records.LegendType.{LegendType}
use Rattle.shunt_picture.specs.declared.records.Loose.{Loose}
use Rattle.shunt_picture.specs.defs.Svg.{wide}
use Rattle.shunt_picture.proofs.Widest.{title_ended}
use Rattle.shunt_picture.proofs.plan_picture.picture.Goals as goal

pub returns-clause-plan : goal.returns-clause-plan
returns-clause-plan c =
    let night = c.args.instance.now in
    let plan = c.args.plan.now in
    let from = 60 * c.first_hour-from.result in
    let to = 60 * c.last_hour-to.result in
    let lanes = c.in_ok-stack.stack.lanes.items in
    let found = c.as_slice-findings.ensures ∙ c.in_ok-audit.ensures.findings in
    let listed = c.as_slice-blocks.ensures in
    let station = c.station-station.ensures.exact in
    record {
      station = c.in_ok-name.ensures ∙ ap (λ (s : Station). s.name) station;
      kinds = c.from_vec.ensures ∙ c.in_ok-kinds.ensures ∙ ap (map kind_of) (c.as_slice.ensures ∙ ap (λ (s : Station). s.types) station);
      from = c.first_hour-from.ensures.exact;
      to = c.last_hour-to.ensures.exact;
      findings = ap length found;
      cost = c.in_ok-audit.ensures.cost;
      stated = refl;
      arrive = c.from_vec-2.ensures ∙ c.in_ok-arrive.ensures.exact ∙ ap (λ (f : List Finding). map (arrive_mark night f) (range_with_len 0 (length night.arrive))) found;
      depart = c.from_vec-4.ensures ∙ c.in_ok-depart.ensures.exact ∙ ap (λ (f : List Finding). map (depart_mark night f) (range_with_len 0 (length night.depart))) found;
      tracks = ap (map (λ (l : Lane). l.track.0)) c.from_vec-6.ensures ∙ c.in_ok-stack.ensures.tracks;
      lanes = subst (λ (ls : List Lane). All (IsLaneOf night (plan_findings night plan) plan.blocks from to) ls) (sym c.from_vec-6.ensures)
          (subst (λ (f : List Finding). All (IsLaneOf night f plan.blocks from to) lanes) found
          (subst (λ (bs : List Block). All (IsLaneOf night c.as_slice-findings.result.now bs from to) lanes) listed c.in_ok-stack.ensures.lanes));
      loose = c.from_vec-7.ensures ∙ c.in_ok-loose.ensures ∙ ap (λ (f : List Finding). looses_of night f c.as_slice-blocks.result.now) found
          ∙ ap (looses_of night (plan_findings night plan)) listed;
    }

pub returns-clause-layout : goal.returns-clause-layout
returns-clause-layout c =
    let from = c.first_hour-from.result in
    let kind_columns = c.columns_of-kind_columns.result in
    let loose_columns = c.columns_of-loose_columns.result in
    let arrive_top = 64 + c.lines_high-arrive_top.result in
    let depart_top = arrive_top + c.rows_high.result + 8 in
    let lanes_top = depart_top + c.rows_high-2.result + 22 in
    let bottom = c.in_ok-stack.stack.bottom in
    record {
      kind_columns = c.columns_of-kind_columns.ensures;
      loose_columns = c.columns_of-loose_columns.ensures;
      arrive_rows = subst (λ (rows : List ℕ). AreTrainRows from c.from_vec-2.result rows) (sym c.from_vec-3.ensures)
          (subst (λ (ts : List TrainMark). AreTrainRows from ts c.in_ok-arrive_rows.arrive_rows.items)
          (c.deref.ensures.value ∙ sym c.from_vec-2.ensures) c.in_ok-arrive_rows.ensures);
      depart_rows = subst (λ (rows : List ℕ). AreTrainRows from c.from_vec-4.result rows) (sym c.from_vec-5.ensures)
          (subst (λ (ts : List TrainMark). AreTrainRows from ts c.in_ok-depart_rows.depart_rows.items)
          (c.deref-2.ensures.value ∙ sym c.from_vec-4.ensures) c.in_ok-depart_rows.ensures);
      arrive_top = ap (λ n. 64 + n) (c.lines_high-arrive_top.ensures.exact ∙ ap (λ n. lines_high n kind_columns)
          (c.len.ensures ∙ c.in_ok-kinds.kinds.ok.0 ∙ ap length (sym c.from_vec.ensures)));
      depart_top = ap (λ n. arrive_top + n + 8) (c.rows_high.ensures.exact ∙ ap trains_high (c.deref-4.ensures.value ∙ sym c.from_vec-3.ensures));
      lanes_top = ap (λ n. depart_top + n + 22) (c.rows_high-2.ensures.exact ∙ ap trains_high (c.deref-5.ensures.value ∙ sym c.from_vec-5.ensures));
      lanes = subst (λ (ls : List Lane). AreStacked lanes_top ls bottom) (sym c.from_vec-6.ensures) c.in_ok-stack.ensures.stacked;
      height = ap (λ n. bottom + n + 40) (c.lines_high.ensures.exact ∙ ap (λ n. lines_high n loose_columns)
          (c.len-2.ensures ∙ c.in_ok-loose.loose.ok.0 ∙ ap length (sym c.from_vec-7.ensures)));
    }

pub returns-clause-inside : goal.returns-clause-inside
returns-clause-inside c =
    let from = c.first_hour-from.result in
    let width = c.trains_end-width.result in
    let far = c.trains_end-width.ensures.least in
    let words = c.words_end-least.ensures in
    let lists = c.furthest.ensures in
    let right = c.right_of-right.ensures.exact in
    let words_far = words.least in
    let lists_far = lists.first in
    let kinds_far = lists.second in
    let looses_far = lists.third in
    let kinds_end : c.lines_end-kinds_end.result ≤ width = omega (arith, far, words_far, kinds_far) in
    let looses_end : c.lines_end-looses_end.result ≤ width = omega (arith, far, words_far, looses_far) in
    let title_far = words.title in
    let bars_far = words.bars in
    let marks_far = words.marks in
    let title_end : 6 + wide 9 c.deref-7.result.now ≤ width = omega (arith, far, title_far) in
    record {
      hours = omega (arith, far, words_far, lists_far, right);
      arrive = subst (λ (ts : List TrainMark). All (λ t. end_of from t ≤ width) ts) (c.deref-8.ensures.value ∙ sym c.from_vec-2.ensures) c.trains_end-width.ensures.arrive;
      depart = subst (λ (ts : List TrainMark). All (λ t. end_of from t ≤ width) ts) (c.deref-9.ensures.value ∙ sym c.from_vec-4.ensures) c.trains_end-width.ensures.depart;
      kinds = subst (λ (ks : List LegendType). All (λ k. kind_width k ≤ c.kinds_room-kind_room.result) ks)
          (c.deref-3.ensures.value ∙ sym c.from_vec.ensures) c.kinds_room-kind_room.ensures.each;
      looses = subst (λ (ls : List Loose). All (λ l. loose_width l ≤ c.looses_room-loose_room.result) ls)
          (c.deref-6.ensures.value ∙ sym c.from_vec-7.ensures) c.looses_room-loose_room.ensures.each;
      kind_lines = subst (λ n. n ≤ width) c.lines_end-kinds_end.ensures kinds_end;
      loose_lines = subst (λ n. n ≤ width) c.lines_end-looses_end.ensures looses_end;
      title = title_ended width _ _ _ _ _ c.deref-7.result.now c.in_ok-name.ensures (c.deref-7.ensures.value ∙ c.in_ok-title.ensures) title_end;
      notes = (omega (arith, far, bars_far), omega (arith, far, marks_far));
    }
