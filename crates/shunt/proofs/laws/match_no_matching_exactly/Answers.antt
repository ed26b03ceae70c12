use Rattle.shunt.proofs.Matched.{no_matching_there, no_matching_only}
use Rattle.shunt.proofs.laws.match_no_matching_exactly.Goals as goal

pub returns-clause-there : goal.returns-clause-there
returns-clause-there c = no_matching_there

pub returns-clause-only : goal.returns-clause-only
returns-clause-only c = no_matching_only
