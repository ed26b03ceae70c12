use Rattle.std.proofs.Common.{◌≡◌, ◌++◌, [], map, drop}
use Rattle.shunt_rows.specs.defs.Records.{text_of_rows}
use Rattle.shunt_station.specs.defs.WrittenRows.{route_row}
use Rattle.shunt_station.proofs.writer.write_routes.Given as goal

abbrev pub invariant-routes : goal.invariant-routes
invariant-routes l = record {
  open_row : l.writer.row ≡ [];
  text : l.writer.text ++ text_of_rows (map (route_row l.station) (drop l.route-index l.station.routes)) ≡ l.fn.writer.text
      ++ text_of_rows (map (route_row l.station) l.station.routes);
}
