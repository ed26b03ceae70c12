use Rattle.shunt_proof.proofs.Tables.{certificates_tell}
use Rattle.shunt_proof.proofs.text_laws.certificate_or_first_fault.Goals as goal

pub returns : goal.returns
returns c = certificates_tell
