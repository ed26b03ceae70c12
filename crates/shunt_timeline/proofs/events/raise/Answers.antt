use Rattle.std.proofs.Common.{arith}
use Rattle.shunt_timeline.specs.defs.Levels.{is_crossed, gets_over, has_left, has_blocked, raised, IsSmall}
use Rattle.shunt_timeline.proofs.Steps.{at_hand, walks, counts}
use Rattle.shunt_timeline.proofs.events.raise.Goals as goal

pub with-met-requires-clause-small : goal.with-met-requires-clause-small
with-met-requires-clause-small c = at_hand (raised c.args.stay.now) c.args.events.now c.loop-event.events c.loop-event.event-index _
    (omega arith) c.loop-event.invariant.events IsSmall c.requires.small

pub raised-requires : goal.raised-requires
raised-requires c = at_hand (raised c.args.stay.now) c.args.events.now c.loop-event.events c.loop-event.event-index _
    (omega arith) c.loop-event.invariant.events IsSmall c.requires.small

pub loop-event-preserved : goal.loop-event-preserved
loop-event-preserved c = record {
  events = walks (raised c.args.stay.now) c.args.events.now c.loop-event.events c.loop-event.event-index _
      (omega arith) c.loop-event.invariant.events c.raised.result c.raised.ensures;
  crossed = counts (raised c.args.stay.now) c.args.events.now c.loop-event.events c.loop-event.event-index _ (omega arith) c.loop-event.invariant.events
      (is_crossed c.args.stay.now) c.loop-event.met.crossed c.with-met.result.crossed c.loop-event.invariant.crossed c.with-met.ensures.crossed;
  over = counts (raised c.args.stay.now) c.args.events.now c.loop-event.events c.loop-event.event-index _ (omega arith) c.loop-event.invariant.events
      (gets_over c.args.stay.now c.args.room) c.loop-event.met.over c.with-met.result.over c.loop-event.invariant.over c.with-met.ensures.over;
  left = counts (raised c.args.stay.now) c.args.events.now c.loop-event.events c.loop-event.event-index _ (omega arith) c.loop-event.invariant.events
      (has_left c.args.stay.now) c.loop-event.met.left c.with-met.result.left c.loop-event.invariant.left c.with-met.ensures.left;
  blocked = counts (raised c.args.stay.now) c.args.events.now c.loop-event.events c.loop-event.event-index _ (omega arith) c.loop-event.invariant.events
      (has_blocked c.args.stay.now) c.loop-event.met.blocked c.with-met.result.blocked c.loop-event.invariant.blocked c.with-met.ensures.blocked;
}
