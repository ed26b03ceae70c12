use Rattle.shunt_base.proofs.Ranks.{key_cmp_is, is_before, rank_tells}
use Rattle.shunt_base.proofs.laws.key_order.Goals as goal

pub returns-clause-by_rank : goal.returns-clause-by_rank
returns-clause-by_rank c = key_cmp_is

pub returns-clause-before : goal.returns-clause-before
returns-clause-before c = is_before

pub returns-clause-exact : goal.returns-clause-exact
returns-clause-exact c = rank_tells
