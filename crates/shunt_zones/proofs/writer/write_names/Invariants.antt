use Rattle.std.proofs.Common.{◌≡◌, ◌++◌, [], map, drop}
use Rattle.shunt_rows.specs.defs.Records.{text_of_rows}
use Rattle.shunt_zones.specs.defs.ZonesRows.{zone_row}
use Rattle.shunt_zones.proofs.writer.write_names.Given as goal

abbrev pub invariant-names : goal.invariant-names
invariant-names l = record {
  open_row : l.writer.row ≡ [];
  text : l.writer.text ++ text_of_rows (map zone_row (drop l.name-index l.names)) ≡ l.fn.writer.text ++ text_of_rows (map zone_row l.names);
}
