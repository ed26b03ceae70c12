use Rattle.std.proofs.Common.{◌≡◌, ◌++◌, [], map, drop}
use Rattle.shunt_rows.specs.defs.Records.{text_of_rows}
use Rattle.shunt_station.specs.defs.WrittenRows.{track_row}
use Rattle.shunt_station.proofs.writer.write_tracks.Given as goal

abbrev pub invariant-tracks : goal.invariant-tracks
invariant-tracks l = record {
  open_row : l.writer.row ≡ [];
  text : l.writer.text ++ text_of_rows (map track_row (drop l.track-index l.tracks)) ≡ l.fn.writer.text ++ text_of_rows (map track_row l.tracks);
}
