use Rattle.shunt_blocks.proofs.StaysOf.{are_stays, are_on_tracks, all_differ, from_block, to_stay, apart_stand}
use Rattle.shunt_blocks.proofs.laws.stays_of_blocks.Goals as goal

pub returns-clause-stays : goal.returns-clause-stays
returns-clause-stays c = are_stays

pub returns-clause-tracks : goal.returns-clause-tracks
returns-clause-tracks c = λ night blocks h. are_on_tracks night blocks h.within

pub returns-clause-differ : goal.returns-clause-differ
returns-clause-differ c = λ night blocks is h. all_differ night blocks is h.within

pub returns-clause-from : goal.returns-clause-from
returns-clause-from c = from_block

pub returns-clause-to : goal.returns-clause-to
returns-clause-to c = to_stay

pub returns-clause-placed : goal.returns-clause-placed
returns-clause-placed c = apart_stand
