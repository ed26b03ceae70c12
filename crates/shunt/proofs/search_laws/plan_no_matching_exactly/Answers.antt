use Rattle.shunt_planning.proofs.Sought.{usable_none}
use Rattle.shunt.specs.defs.Calls.{MakePlan}
use Rattle.shunt.proofs.Searched.{no_matching_there, no_matching_only}
use Rattle.shunt.proofs.Planned.{plan_search, plan_answers, no_findings}
use Rattle.shunt.proofs.search_laws.plan_no_matching_exactly.Goals as goal

pub returns-clause-there : goal.returns-clause-there
returns-clause-there c = λ s t m p k old new x files night known ok none ends. no_matching_there (MakePlan s t m p k) (plan_search s t m p k)
    (plan_answers s t m p k) old new x files night known ok (usable_none night) none ends

pub returns-clause-only : goal.returns-clause-only
returns-clause-only c = λ s t m p k old new ends. (let h = no_matching_only (MakePlan s t m p k) (plan_search s t m p k) (plan_answers s t m p k) old new ends in
    (h.0, h.1, (h.2.0, h.2.1, h.2.3)))

pub returns-clause-no_findings : goal.returns-clause-no_findings
returns-clause-no_findings c = no_findings
