use Rattle.shunt_planning.proofs.Sought.{usable_none}
use Rattle.shunt.specs.defs.Calls.{MakePlan}
use Rattle.shunt.proofs.Searched.{done_there}
use Rattle.shunt.proofs.Planned.{plan_search, plan_answers, ends_well}
use Rattle.shunt.proofs.search_laws.plan_completes.Goals as goal

pub returns-clause-done : goal.returns-clause-done
returns-clause-done c = λ s t m p k old new x files night known ok some fewer ends. done_there (MakePlan s t m p k) (plan_search s t m p k)
    (plan_answers s t m p k) old new x files night known ok (usable_none night) some fewer ends

pub returns-clause-ends : goal.returns-clause-ends
returns-clause-ends c = ends_well
