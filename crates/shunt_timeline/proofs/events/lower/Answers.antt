use Rattle.std.proofs.Common.{◌∙◌, ◌+◌, cond, ap, arith}
use Rattle.shunt_timeline.specs.defs.Levels.{is_crossed, gets_over, has_left, has_blocked, lowered, IsSmall}
use Rattle.shunt_timeline.proofs.Steps.{at_hand, walks, counts_made, counts_within, small_lowered, flag_most}
use Rattle.shunt_timeline.proofs.events.lower.Goals as goal

pub with-met-requires-clause-small : goal.with-met-requires-clause-small
with-met-requires-clause-small c = small_lowered c.args.stay.now _ c.lowered.result c.lowered.ensures
    (at_hand (lowered c.args.stay.now) c.args.events.now c.loop-event.events c.loop-event.event-index _ (omega arith) c.loop-event.invariant.events IsSmall c.requires.small)

pub with-met-requires-clause-crossed : goal.with-met-requires-clause-crossed
with-met-requires-clause-crossed c = counts_within (λ e. is_crossed c.args.stay.now (lowered c.args.stay.now e)) c.args.events.now c.loop-event.event-index c.loop-event.met.crossed
    (omega arith) c.requires.few c.loop-event.invariant.crossed

pub loop-event-preserved : goal.loop-event-preserved
loop-event-preserved c = record {
  events = walks (lowered c.args.stay.now) c.args.events.now c.loop-event.events c.loop-event.event-index _
      (omega arith) c.loop-event.invariant.events c.lowered.result c.lowered.ensures;
  crossed = counts_made (lowered c.args.stay.now) c.args.events.now c.loop-event.events c.loop-event.event-index _ (omega arith) c.loop-event.invariant.events
      (is_crossed c.args.stay.now) c.loop-event.met.crossed c.with-met.result.crossed c.loop-event.invariant.crossed
      (c.with-met.ensures.crossed ∙ ap (λ e. c.loop-event.met.crossed + cond (is_crossed c.args.stay.now e) 1 0) c.lowered.ensures);
  over = counts_made (lowered c.args.stay.now) c.args.events.now c.loop-event.events c.loop-event.event-index _ (omega arith) c.loop-event.invariant.events
      (gets_over c.args.stay.now c.args.room) c.loop-event.met.over c.with-met.result.over c.loop-event.invariant.over
      (c.with-met.ensures.over ∙ ap (λ e. c.loop-event.met.over + cond (gets_over c.args.stay.now c.args.room e) 1 0) c.lowered.ensures);
  left = let f = flag_most (has_left c.args.stay.now c.lowered.result) in let e = c.with-met.ensures.left in let i = c.loop-event.invariant.left in omega arith;
  blocked = let f = flag_most (has_blocked c.args.stay.now c.lowered.result) in let e = c.with-met.ensures.blocked in let i = c.loop-event.invariant.blocked in omega arith;
}
