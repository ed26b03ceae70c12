use Rattle.shunt_stays.proofs.Crossings.{through_clear, clear_through, no_pairs, no_overs}
use Rattle.shunt_stays.proofs.laws.clash_law.Goals as goal

pub returns-clause-law : goal.returns-clause-law
returns-clause-law c = λ lengths stays a on. (λ go. through_clear lengths stays a on go, λ k. clear_through lengths stays a on k.0 k.1)

pub returns-clause-counts : goal.returns-clause-counts
returns-clause-counts c = λ lengths stays a on. (
  λ go. let k = through_clear lengths stays a on go in ((no_pairs stays).1 k.0, (no_overs lengths stays).1 k.1),
  λ k. clear_through lengths stays a on ((no_pairs stays).0 k.0) ((no_overs lengths stays).0 k.1),
)
