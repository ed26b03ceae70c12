use Rattle.shunt_proof.proofs.RowNumbers.{numbered}
use Rattle.shunt_proof.proofs.text_laws.records_of_nodes.Goals as goal

pub returns : goal.returns
returns c = numbered
