use Rattle.std.proofs.Common.{◌≡◌, ◌++◌, [], map, drop}
use Rattle.shunt_rows.specs.defs.Records.{text_of_rows}
use Rattle.shunt_drivers.specs.defs.RosterRows.{duty_row}
use Rattle.shunt_drivers.proofs.writer.write_duties.Given as goal

abbrev pub invariant-duties : goal.invariant-duties
invariant-duties l = record {
  open_row : l.writer.row ≡ [];
  text : l.writer.text ++ text_of_rows (map duty_row (drop l.duty-index l.duties)) ≡ l.fn.writer.text ++ text_of_rows (map duty_row l.duties);
}
