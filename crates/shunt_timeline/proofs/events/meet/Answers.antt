use Rattle.std.proofs.Common.{arith}
use Rattle.shunt_lists.proofs.Members.{in_place}
use Rattle.shunt_timeline.proofs.events.meet.Goals as goal

pub with-met-requires-clause-small : goal.with-met-requires-clause-small
with-met-requires-clause-small c = c.requires.small _ (in_place c.args.events.now c.loop-event.event-index _ (omega arith))
