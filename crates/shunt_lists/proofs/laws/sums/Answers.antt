use Rattle.shunt_lists.proofs.SumsBelow.{sum_below-same, sum_below-add, exchange, sum_below-times, sum_below-small}
use Rattle.shunt_lists.proofs.laws.sums.Goals as goal

pub returns-clause-same : goal.returns-clause-same
returns-clause-same c = sum_below-same

pub returns-clause-added : goal.returns-clause-added
returns-clause-added c = sum_below-add

pub returns-clause-exchange : goal.returns-clause-exchange
returns-clause-exchange c = exchange

pub returns-clause-times : goal.returns-clause-times
returns-clause-times c = sum_below-times

pub returns-clause-small : goal.returns-clause-small
returns-clause-small c = sum_below-small
