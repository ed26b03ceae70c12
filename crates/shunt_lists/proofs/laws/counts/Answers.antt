use Rattle.shunt_lists.proofs.CountsBelow.{count_below-le, count_below-longer, same_rank, of_rank}
use Rattle.shunt_lists.proofs.laws.counts.Goals as goal

pub returns-clause-more : goal.returns-clause-more
returns-clause-more c = count_below-le

pub returns-clause-longer : goal.returns-clause-longer
returns-clause-longer c = count_below-longer

pub returns-clause-same_rank : goal.returns-clause-same_rank
returns-clause-same_rank c = same_rank

pub returns-clause-of_rank : goal.returns-clause-of_rank
returns-clause-of_rank c = of_rank
