use Rattle.std.proofs.Common.{◌≡◌, ◌++◌, drop, []}
use Rattle.std.specs.List.{flat_map}
use Rattle.shunt_rows.specs.defs.Records.{text_of_rows}
use Rattle.shunt_proof.specs.defs.CertificateRows.{node_rows}
use Rattle.shunt_proof.proofs.writer.write_nodes.Given as goal

abbrev pub invariant-nodes : goal.invariant-nodes
invariant-nodes l = record {
  row : l.writer.row ≡ [];
  text : l.writer.text ++ text_of_rows (flat_map (node_rows l.instance) (drop l.node-index l.nodes)) ≡ l.fn.writer.text ++ text_of_rows (flat_map (node_rows l.instance) l.nodes);
}
