use Rattle.std.proofs.Common.{◌≡◌, ◌++◌, [], map, drop}
use Rattle.shunt_rows.specs.defs.Records.{text_of_rows}
use Rattle.shunt_station.specs.defs.WrittenRows.{platform_row}
use Rattle.shunt_station.proofs.writer.write_platforms.Given as goal

abbrev pub invariant-platforms : goal.invariant-platforms
invariant-platforms l = record {
  open_row : l.writer.row ≡ [];
  text : l.writer.text ++ text_of_rows (map platform_row (drop l.name-index l.platforms)) ≡ l.fn.writer.text ++ text_of_rows (map platform_row l.platforms);
}
