use Rattle.shunt.proofs.Trials.{done_there, no_findings, no_input, no_matching, no_unfinished}
use Rattle.shunt.proofs.laws.trial_done_exactly.Goals as goal

pub returns-clause-done : goal.returns-clause-done
returns-clause-done c = done_there

pub returns-clause-no_findings : goal.returns-clause-no_findings
returns-clause-no_findings c = no_findings

pub returns-clause-no_input : goal.returns-clause-no_input
returns-clause-no_input c = no_input

pub returns-clause-no_matching : goal.returns-clause-no_matching
returns-clause-no_matching c = no_matching

pub returns-clause-no_unfinished : goal.returns-clause-no_unfinished
returns-clause-no_unfinished c = no_unfinished
