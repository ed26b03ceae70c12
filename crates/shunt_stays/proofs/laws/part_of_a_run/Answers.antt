use Rattle.std.specs.List.{filter}
use Rattle.shunt_lists.proofs.Members.{filter_from}
use Rattle.shunt_stays.proofs.Fewer.{part_through, stays_filter}
use Rattle.shunt_stays.proofs.SortedEvents.{tracks_within}
use Rattle.shunt_stays.proofs.laws.part_of_a_run.Goals as goal

pub returns-clause-part : goal.returns-clause-part
returns-clause-part c = λ lengths stays part a on b within go. part_through lengths stays part a on b (tracks_within lengths stays part on within) within go

pub returns-clause-tested : goal.returns-clause-tested
returns-clause-tested c = λ lengths stays test a on go.
    part_through lengths stays (filter test stays) a on (stays_filter test stays a) (tracks_within lengths stays (filter test stays) on (λ s h. (filter_from test stays s h).0))
    (λ s h. (filter_from test stays s h).0) go

pub returns-clause-stays : goal.returns-clause-stays
returns-clause-stays c = λ stays test a. stays_filter test stays a
