use Rattle.shunt.proofs.Matched.{done_there, done_only, no_findings, no_unfinished}
use Rattle.shunt.proofs.laws.match_done_exactly.Goals as goal

pub returns-clause-there : goal.returns-clause-there
returns-clause-there c = done_there

pub returns-clause-only : goal.returns-clause-only
returns-clause-only c = done_only

pub returns-clause-no_findings : goal.returns-clause-no_findings
returns-clause-no_findings c = no_findings

pub returns-clause-no_unfinished : goal.returns-clause-no_unfinished
returns-clause-no_unfinished c = no_unfinished
