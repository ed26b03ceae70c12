use Rattle.shunt.proofs.Always.{done_there, done_only, no_findings, no_matching, no_unfinished}
use Rattle.std.proofs.Common.{ap}
use Rattle.shunt_inputs.specs.defs.Replies.{Reply}
use Rattle.shunt.specs.defs.Calls.{Upgrade}
use Rattle.shunt.proofs.laws.upgrade_done_exactly.Goals as goal

pub returns-clause-done : goal.returns-clause-done
returns-clause-done c = λ s t n m. done_there (Upgrade s t n m) (λ v r is. ap (λ (q : Reply). q.outcome) is)

pub returns-clause-done_only : goal.returns-clause-done_only
returns-clause-done_only c = λ s t n m. done_only (Upgrade s t n m) (λ v r is. ap (λ (q : Reply). q.outcome) is)

pub returns-clause-no_findings : goal.returns-clause-no_findings
returns-clause-no_findings c = λ s t n m. no_findings (Upgrade s t n m) (λ v r is. ap (λ (q : Reply). q.outcome) is)

pub returns-clause-no_matching : goal.returns-clause-no_matching
returns-clause-no_matching c = λ s t n m. no_matching (Upgrade s t n m) (λ v r is. ap (λ (q : Reply). q.outcome) is)

pub returns-clause-no_unfinished : goal.returns-clause-no_unfinished
returns-clause-no_unfinished c = λ s t n m. no_unfinished (Upgrade s t n m) (λ v r is. ap (λ (q : Reply). q.outcome) is)
