use Rattle.std.proofs.Common.{◌≡◌, ◌++◌, map, drop, []}
use Rattle.shunt_rows.specs.defs.Records.{text_of_rows}
use Rattle.shunt_timetable.specs.defs.WrittenRows.{placed_row}
use Rattle.shunt_timetable.proofs.writer.write_runs.Given as goal

abbrev pub invariant-runs : goal.invariant-runs
invariant-runs l = record {
  row : l.writer.row ≡ [];
  text : l.writer.text ++ text_of_rows (map (placed_row l.station l.train) (drop l.run-index l.runs)) ≡ l.fn.writer.text
      ++ text_of_rows (map (placed_row l.station l.train) l.runs);
}
