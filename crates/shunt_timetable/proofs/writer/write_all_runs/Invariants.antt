use Rattle.std.proofs.Common.{◌≡◌, ◌++◌, drop, []}
use Rattle.std.specs.Prelude.{flat_map}
use Rattle.shunt_rows.specs.defs.Records.{text_of_rows}
use Rattle.shunt_timetable.specs.defs.WrittenRows.{placed_rows}
use Rattle.shunt_timetable.proofs.writer.write_all_runs.Given as goal

abbrev pub invariant-trains : goal.invariant-trains
invariant-trains l = record {
  row : l.writer.row ≡ [];
  text : l.writer.text ++ text_of_rows (flat_map (placed_rows l.station) (drop l.train-index l.trains)) ≡ l.fn.writer.text
      ++ text_of_rows (flat_map (placed_rows l.station) l.trains);
}
