use Rattle.shunt_rows.proofs.KeptStates.{given}
use Rattle.shunt_proof.specs.defs.Certificates.{IsCertificate}
use Rattle.shunt_proof.proofs.Formed.{certificate_formed}
use Rattle.shunt_proof.proofs.draft.read_certificate.Goals as goal

pub returns-clause-in_range : goal.returns-clause-in_range
returns-clause-in_range c = given (λ x. x) (IsCertificate c.args.instance.now) _ (certificate_formed c.args.instance.now _) c.read.result c.read.ensures
