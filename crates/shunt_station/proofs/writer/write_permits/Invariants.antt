use Rattle.std.proofs.Common.{◌≡◌, ◌++◌, [], map, drop}
use Rattle.shunt_rows.specs.defs.Records.{text_of_rows}
use Rattle.shunt_station.specs.defs.WrittenRows.{permit_row}
use Rattle.shunt_station.proofs.writer.write_permits.Given as goal

abbrev pub invariant-permits : goal.invariant-permits
invariant-permits l = record {
  open_row : l.writer.row ≡ [];
  text : l.writer.text ++ text_of_rows (map (permit_row l.station) (drop l.permit-index l.station.permits)) ≡ l.fn.writer.text
      ++ text_of_rows (map (permit_row l.station) l.station.permits);
}
