use Rattle.shunt_delay.proofs.Lately.{soon_late, never_late}
use Rattle.shunt_delay.proofs.Words.{stay_in_words}
use Rattle.shunt_delay.proofs.laws.late_blocks.Goals as goal

pub returns-clause-soon : goal.returns-clause-soon
returns-clause-soon c = λ i d night b r. soon_late c.places.ensures.unit i d night b r

pub returns-clause-stay : goal.returns-clause-stay
returns-clause-stay c = λ i d night b r late_enough. stay_in_words c.places.ensures.unit i d night b r late_enough

pub returns-clause-never : goal.returns-clause-never
returns-clause-never c = never_late
