use Rattle.shunt_matching.proofs.ByCounts.{balanced, matched}
use Rattle.shunt_matching.proofs.laws.matching_by_counts.Goals as goal

pub returns-clause-only : goal.returns-clause-only
returns-clause-only c = balanced

pub returns-clause-first_fit : goal.returns-clause-first_fit
returns-clause-first_fit c = matched
