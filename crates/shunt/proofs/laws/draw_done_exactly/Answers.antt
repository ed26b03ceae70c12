use Rattle.shunt.specs.defs.Calls.{Draw}
use Rattle.shunt.proofs.Audits.{draw_judges, done_there, done_only, findings_there, findings_only, no_matching, no_unfinished}
use Rattle.shunt.proofs.laws.draw_done_exactly.Goals as goal

pub returns-clause-done : goal.returns-clause-done
returns-clause-done c = λ s t p n. done_there (Draw s t p n) s t p (draw_judges s t p n) c.plan_findings.ensures.none

pub returns-clause-done_only : goal.returns-clause-done_only
returns-clause-done_only c = λ s t p n. done_only (Draw s t p n) s t p (draw_judges s t p n) c.plan_findings.ensures.none

pub returns-clause-findings : goal.returns-clause-findings
returns-clause-findings c = λ s t p n. findings_there (Draw s t p n) s t p (draw_judges s t p n) c.plan_findings.ensures.none

pub returns-clause-findings_only : goal.returns-clause-findings_only
returns-clause-findings_only c = λ s t p n. findings_only (Draw s t p n) s t p (draw_judges s t p n) c.plan_findings.ensures.none

pub returns-clause-no_matching : goal.returns-clause-no_matching
returns-clause-no_matching c = λ s t p n. no_matching (Draw s t p n) s t p (draw_judges s t p n)

pub returns-clause-no_unfinished : goal.returns-clause-no_unfinished
returns-clause-no_unfinished c = λ s t p n. no_unfinished (Draw s t p n) s t p (draw_judges s t p n)
