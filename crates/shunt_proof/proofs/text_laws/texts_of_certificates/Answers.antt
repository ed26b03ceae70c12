use Rattle.shunt_proof.proofs.RoundTrip.{records_back, text_back}
use Rattle.shunt_proof.proofs.text_laws.texts_of_certificates.Goals as goal

pub returns-clause-rows : goal.returns-clause-rows
returns-clause-rows c = records_back

pub returns-clause-again : goal.returns-clause-again
returns-clause-again c = text_back
