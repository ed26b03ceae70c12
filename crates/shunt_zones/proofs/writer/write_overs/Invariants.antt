use Rattle.std.proofs.Common.{◌≡◌, ◌++◌, [], map, drop}
use Rattle.shunt_rows.specs.defs.Records.{text_of_rows}
use Rattle.shunt_zones.specs.defs.ZonesRows.{over_row}
use Rattle.shunt_zones.proofs.writer.write_overs.Given as goal

abbrev pub invariant-overs : goal.invariant-overs
invariant-overs l = record {
  open_row : l.writer.row ≡ [];
  text : l.writer.text ++ text_of_rows (map (over_row l.station l.names) (drop l.over-index l.overs)) ≡ l.fn.writer.text ++ text_of_rows (map (over_row l.station l.names) l.overs);
}
