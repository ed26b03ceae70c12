use Rattle.shunt.specs.defs.Calls.{Follow}
use Rattle.shunt_dispatch.specs.defs.Followed.{GoesThrough}
use Rattle.shunt.proofs.Either.{done_there, done_only, findings_there, findings_only, no_matching, no_unfinished}
use Rattle.shunt.proofs.Gone.{follow_parts}
use Rattle.shunt.proofs.laws.follow_done_exactly.Goals as goal

pub returns-clause-done : goal.returns-clause-done
returns-clause-done c = λ s n. done_there (Follow s n) GoesThrough (λ files v r ok. follow_parts v r)

pub returns-clause-done_only : goal.returns-clause-done_only
returns-clause-done_only c = λ s n. done_only (Follow s n) GoesThrough (λ files v r ok. follow_parts v r)

pub returns-clause-findings : goal.returns-clause-findings
returns-clause-findings c = λ s n. findings_there (Follow s n) GoesThrough (λ files v r ok. follow_parts v r)

pub returns-clause-findings_only : goal.returns-clause-findings_only
returns-clause-findings_only c = λ s n. findings_only (Follow s n) GoesThrough (λ files v r ok. follow_parts v r)

pub returns-clause-no_matching : goal.returns-clause-no_matching
returns-clause-no_matching c = λ s n. no_matching (Follow s n) GoesThrough (λ files v r ok. follow_parts v r)

pub returns-clause-no_unfinished : goal.returns-clause-no_unfinished
returns-clause-no_unfinished c = λ s n. no_unfinished (Follow s n) GoesThrough (λ files v r ok. follow_parts v r)
