use Rattle.shunt_timeline.specs.defs.Levels.{lowered}
use Rattle.shunt_timeline.proofs.Places.{in_middle_of, written}
use Rattle.shunt_timeline.proofs.track.lower_between.Goals as goal

pub lower-requires-clause-small : goal.lower-requires-clause-small
lower-requires-clause-small c = λ e h. c.requires.small e (in_middle_of c.args.from c.args.to c.args.events.now.items c.deref_mut.result.now e c.deref_mut.ensures.value h)

pub returns-clause-events : goal.returns-clause-events
returns-clause-events c = written (lowered c.args.stay.now) c.args.from c.args.to c.args.events.now.len c.args.events.now.items c.deref_mut.result.now c.lower.new.events
    c.requires.order c.args.events.now.ok.0 c.deref_mut.ensures.value c.lower.ensures.events
