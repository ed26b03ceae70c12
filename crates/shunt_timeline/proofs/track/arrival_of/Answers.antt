use Rattle.shunt_timeline.proofs.Arrivals.{wf, order, level_is, new_enter, new_leave}
use Rattle.shunt_timeline.proofs.track.arrival_of.Goals as goal

pub place-from-requires-clause-formed : goal.place-from-requires-clause-formed
place-from-requires-clause-formed c = wf c.requires.0 c.args.stay.now c.args.events.now c.requires.1 c.requires.2

pub place-to-requires-clause-formed : goal.place-to-requires-clause-formed
place-to-requires-clause-formed c = wf c.requires.0 c.args.stay.now c.args.events.now c.requires.1 c.requires.2

pub returns-clause-order : goal.returns-clause-order
returns-clause-order c = order c.requires.0 c.args.stay.now c.args.events.now c.requires.1 c.requires.2 c.place-from.result c.place-to.result c.place-from.ensures
    c.place-to.ensures

pub returns-clause-before : goal.returns-clause-before
returns-clause-before c = λ stays a k.
    let l = level_is stays c.args.stay.now.track.0 c.args.events.now a.2 k c.args.stay.now.enter a.0.enter_in c.place-from.result c.place-from.ensures
    (new_enter stays c.args.stay.now c.args.events.now a k) c.level_before.result.standing c.level_before.result.load c.level_before.ensures.first
    c.level_before.ensures.later in
    record { standing = l.0; load = l.1 }

pub returns-clause-others : goal.returns-clause-others
returns-clause-others c = λ stays a k.
    let l = level_is stays c.args.stay.now.track.0 c.args.events.now a.2 k c.args.stay.now.leave a.0.leave_in c.place-to.result c.place-to.ensures
    (new_leave stays c.args.stay.now c.args.events.now a k) c.level_before-2.result.standing c.level_before-2.result.load c.level_before-2.ensures.first
    c.level_before-2.ensures.later in
    record { standing = l.0; load = l.1 }
