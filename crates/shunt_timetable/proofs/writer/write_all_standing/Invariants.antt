use Rattle.std.proofs.Common.{◌≡◌, ◌++◌, map, filter, drop, []}
use Rattle.shunt_rows.specs.defs.Records.{text_of_rows}
use Rattle.shunt_instance.specs.defs.Words.{is_standing}
use Rattle.shunt_timetable.specs.defs.WrittenRows.{standing_row}
use Rattle.shunt_timetable.proofs.writer.write_all_standing.Given as goal

abbrev pub invariant-trains : goal.invariant-trains
invariant-trains l = record {
  row : l.writer.row ≡ [];
  text : l.writer.text ++ text_of_rows (map (standing_row l.station) (filter is_standing (drop l.train-index l.trains))) ≡ l.fn.writer.text
      ++ text_of_rows (map (standing_row l.station) (filter is_standing l.trains));
}
