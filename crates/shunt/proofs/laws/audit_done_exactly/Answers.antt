use Rattle.shunt.specs.defs.Calls.{Audit}
use Rattle.shunt.proofs.Audits.{audit_judges, done_there, done_only, findings_there, findings_only, no_matching, no_unfinished}
use Rattle.shunt.proofs.laws.audit_done_exactly.Goals as goal

pub returns-clause-done : goal.returns-clause-done
returns-clause-done c = λ s t p. done_there (Audit s t p) s t p (audit_judges s t p) c.plan_findings.ensures.none

pub returns-clause-done_only : goal.returns-clause-done_only
returns-clause-done_only c = λ s t p. done_only (Audit s t p) s t p (audit_judges s t p) c.plan_findings.ensures.none

pub returns-clause-findings : goal.returns-clause-findings
returns-clause-findings c = λ s t p. findings_there (Audit s t p) s t p (audit_judges s t p) c.plan_findings.ensures.none

pub returns-clause-findings_only : goal.returns-clause-findings_only
returns-clause-findings_only c = λ s t p. findings_only (Audit s t p) s t p (audit_judges s t p) c.plan_findings.ensures.none

pub returns-clause-no_matching : goal.returns-clause-no_matching
returns-clause-no_matching c = λ s t p. no_matching (Audit s t p) s t p (audit_judges s t p)

pub returns-clause-no_unfinished : goal.returns-clause-no_unfinished
returns-clause-no_unfinished c = λ s t p. no_unfinished (Audit s t p) s t p (audit_judges s t p)
