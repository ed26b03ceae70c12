use Rattle.shunt_stays.proofs.Fewer.{order_same}
use Rattle.shunt_stays.proofs.SortedEvents.{order_permuted, sorted_is, stays_permuted}
use Rattle.shunt_stays.proofs.laws.sorted_events.Goals as goal

pub returns-clause-set : goal.returns-clause-set
returns-clause-set c = order_same

pub returns-clause-permuted : goal.returns-clause-permuted
returns-clause-permuted c = order_permuted

pub returns-clause-sorted : goal.returns-clause-sorted
returns-clause-sorted c = sorted_is

pub returns-clause-stays : goal.returns-clause-stays
returns-clause-stays c = stays_permuted
