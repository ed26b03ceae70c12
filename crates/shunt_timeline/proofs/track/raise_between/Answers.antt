use Rattle.shunt_timeline.proofs.Places.{in_middle_of}
use Rattle.shunt_timeline.proofs.track.raise_between.Goals as goal

pub raise-requires-clause-small : goal.raise-requires-clause-small
raise-requires-clause-small c = λ e h. c.requires.small e (in_middle_of c.args.from c.args.to c.args.events.now.items c.deref_mut.result.now e c.deref_mut.ensures.value h)
