use Rattle.std.proofs.Common.{◌≡◌, ◌++◌, map, drop, []}
use Rattle.std.specs.Prelude.{slice_index_or}
use Rattle.shunt_timetable.specs.defs.WrittenRows.{type_names}
use Rattle.shunt_timetable.proofs.writer.write_units.Given as goal

abbrev pub invariant-units : goal.invariant-units
invariant-units l = record {
  text : l.writer.text ≡ l.fn.writer.text;
  row : l.writer.row ++ map (λ k. slice_index_or (type_names l.station) k.0 []) (drop l.kind-index l.units) ≡ l.fn.writer.row
      ++ map (λ k. slice_index_or (type_names l.station) k.0 []) l.units;
}
