use Rattle.shunt_lists.proofs.SumsBelow.{sum_of_places, count_of_places}
use Rattle.shunt_lists.proofs.laws.one_to_one.Goals as goal

pub returns-clause-sums : goal.returns-clause-sums
returns-clause-sums c = sum_of_places

pub returns-clause-counts : goal.returns-clause-counts
returns-clause-counts c = count_of_places
