use Rattle.shunt_delay.proofs.Found.{at_crosser}
use Rattle.shunt_delay.proofs.first.first_crossing_of.Goals as goal

pub returns-then-crosses : goal.returns-then-crosses
returns-then-crosses c = at_crosser c.args.stays.now c.args.earlier.now c.loop-later.later-index _ c.crosses.result c.loop-later-test.true c.loop-later.invariant c.crosses.ensures
    c.if-crosses.true
