use Rattle.shunt_proof.proofs.Told.{told_so, so_told}
use Rattle.shunt_proof.proofs.text_laws.nodes_of_files.Goals as goal

pub returns-clause-written : goal.returns-clause-written
returns-clause-written c = told_so

pub returns-clause-told : goal.returns-clause-told
returns-clause-told c = so_told
