use Rattle.std.proofs.Common.{◌≡◌, ◌++◌, map, drop, []}
use Rattle.shunt_rows.specs.defs.Records.{text_of_rows}
use Rattle.shunt_proof.specs.defs.CertificateRows.{price_row}
use Rattle.shunt_proof.proofs.writer.write_prices.Given as goal

abbrev pub invariant-prices : goal.invariant-prices
invariant-prices l = record {
  row : l.writer.row ≡ [];
  text : l.writer.text ++ text_of_rows (map (price_row l.instance) (drop l.price-index l.prices)) ≡ l.fn.writer.text ++ text_of_rows (map (price_row l.instance) l.prices);
}
