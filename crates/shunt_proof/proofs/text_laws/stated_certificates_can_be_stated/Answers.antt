use Rattle.shunt_proof.proofs.Formed.{certificate_formed}
use Rattle.shunt_proof.proofs.text_laws.stated_certificates_can_be_stated.Goals as goal

pub returns : goal.returns
returns c = certificate_formed
