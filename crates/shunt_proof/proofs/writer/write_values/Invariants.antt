use Rattle.std.proofs.Common.{◌≡◌, ◌++◌, map, drop}
use Rattle.std.specs.Fmt.{signed_decimal}
use Rattle.shunt_proof.proofs.writer.write_values.Given as goal

abbrev pub invariant-values : goal.invariant-values
invariant-values l = record {
  text : l.writer.text ≡ l.fn.writer.text;
  row : l.writer.row ++ map signed_decimal (drop l.value-index l.values) ≡ l.fn.writer.row ++ map signed_decimal l.values;
}
