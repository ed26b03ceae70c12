use Rattle.shunt.proofs.Compared.{done_there, done_only, findings_there, findings_only, no_matching, no_unfinished}
use Rattle.shunt.proofs.laws.compare_done_exactly.Goals as goal

pub returns-clause-done : goal.returns-clause-done
returns-clause-done c = done_there c.plan_findings.ensures.none c.same_plans.ensures

pub returns-clause-done_only : goal.returns-clause-done_only
returns-clause-done_only c = done_only c.plan_findings.ensures.none c.same_plans.ensures

pub returns-clause-findings : goal.returns-clause-findings
returns-clause-findings c = findings_there c.plan_findings.ensures.none c.same_plans.ensures

pub returns-clause-findings_only : goal.returns-clause-findings_only
returns-clause-findings_only c = findings_only c.plan_findings.ensures.none c.same_plans.ensures

pub returns-clause-no_matching : goal.returns-clause-no_matching
returns-clause-no_matching c = no_matching c.plan_findings.ensures.none c.same_plans.ensures

pub returns-clause-no_unfinished : goal.returns-clause-no_unfinished
returns-clause-no_unfinished c = no_unfinished c.plan_findings.ensures.none c.same_plans.ensures
