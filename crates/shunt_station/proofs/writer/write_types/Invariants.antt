use Rattle.std.proofs.Common.{◌≡◌, ◌++◌, [], map, drop}
use Rattle.shunt_rows.specs.defs.Records.{text_of_rows}
use Rattle.shunt_station.specs.defs.WrittenRows.{type_row}
use Rattle.shunt_station.proofs.writer.write_types.Given as goal

abbrev pub invariant-types : goal.invariant-types
invariant-types l = record {
  open_row : l.writer.row ≡ [];
  text : l.writer.text ++ text_of_rows (map type_row (drop l.kind-index l.types)) ≡ l.fn.writer.text ++ text_of_rows (map type_row l.types);
}
