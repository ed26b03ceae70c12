use Rattle.std.proofs.Common.{◌≡◌, ◌++◌, map, filter, not, drop, []}
use Rattle.shunt_rows.specs.defs.Records.{text_of_rows}
use Rattle.shunt_instance.specs.defs.Words.{is_standing}
use Rattle.shunt_timetable.specs.defs.WrittenRows.{moving_row}
use Rattle.shunt_timetable.proofs.writer.write_all_moving.Given as goal

abbrev pub invariant-moving : goal.invariant-moving
invariant-moving l = record {
  row : l.writer.row ≡ [];
  text : l.writer.text ++ text_of_rows (map (moving_row l.station l.word) (filter (λ r. not (is_standing r)) (drop l.train-index l.trains))) ≡ l.fn.writer.text
      ++ text_of_rows (map (moving_row l.station l.word) (filter (λ r. not (is_standing r)) l.trains));
}
