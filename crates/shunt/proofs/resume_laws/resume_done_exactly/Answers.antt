use Rattle.shunt.proofs.Sound.{done_there, done_only, findings_there, findings_only, no_matching, no_unfinished}
use Rattle.shunt.proofs.Resumed.{resume_answers}
use Rattle.shunt.proofs.resume_laws.resume_done_exactly.Goals as goal

pub returns-clause-done : goal.returns-clause-done
returns-clause-done c = λ s t p m n i. done_there _ s t p _ (resume_answers s t p m n i) c.plan_findings.ensures.none

pub returns-clause-done_only : goal.returns-clause-done_only
returns-clause-done_only c = λ s t p m n i. done_only _ s t p _ (resume_answers s t p m n i) c.plan_findings.ensures.none

pub returns-clause-findings : goal.returns-clause-findings
returns-clause-findings c = λ s t p m n i. findings_there _ s t p _ (resume_answers s t p m n i) c.plan_findings.ensures.none

pub returns-clause-findings_only : goal.returns-clause-findings_only
returns-clause-findings_only c = λ s t p m n i. findings_only _ s t p _ (resume_answers s t p m n i) c.plan_findings.ensures.none

pub returns-clause-no_matching : goal.returns-clause-no_matching
returns-clause-no_matching c = λ s t p m n i. no_matching _ s t p _ (resume_answers s t p m n i)

pub returns-clause-no_unfinished : goal.returns-clause-no_unfinished
returns-clause-no_unfinished c = λ s t p m n i. no_unfinished _ s t p _ (resume_answers s t p m n i)
