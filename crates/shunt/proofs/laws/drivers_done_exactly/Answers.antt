use Rattle.shunt.proofs.Always.{done_there, done_only, no_findings, no_matching, no_unfinished}
use Rattle.shunt.specs.defs.Calls.{Drivers}
use Rattle.shunt.proofs.Shared.{told_outcome}
use Rattle.shunt.proofs.laws.drivers_done_exactly.Goals as goal

pub returns-clause-done : goal.returns-clause-done
returns-clause-done c = λ s t p k d. done_there (Drivers s t p k d) (told_outcome d)

pub returns-clause-done_only : goal.returns-clause-done_only
returns-clause-done_only c = λ s t p k d. done_only (Drivers s t p k d) (told_outcome d)

pub returns-clause-no_findings : goal.returns-clause-no_findings
returns-clause-no_findings c = λ s t p k d. no_findings (Drivers s t p k d) (told_outcome d)

pub returns-clause-no_matching : goal.returns-clause-no_matching
returns-clause-no_matching c = λ s t p k d. no_matching (Drivers s t p k d) (told_outcome d)

pub returns-clause-no_unfinished : goal.returns-clause-no_unfinished
returns-clause-no_unfinished c = λ s t p k d. no_unfinished (Drivers s t p k d) (told_outcome d)
