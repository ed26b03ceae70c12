use Rattle.shunt.specs.defs.Calls.{Audit}
use Rattle.shunt.proofs.Audits.{audit_judges, ends_well}
use Rattle.shunt.proofs.laws.audit_completes.Goals as goal

pub returns : goal.returns
returns c = λ s t p. ends_well (Audit s t p) s t p (audit_judges s t p)
