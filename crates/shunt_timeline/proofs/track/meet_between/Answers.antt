use Rattle.shunt_timeline.proofs.Places.{in_middle}
use Rattle.shunt_timeline.proofs.track.meet_between.Goals as goal

pub meet-requires-clause-small : goal.meet-requires-clause-small
meet-requires-clause-small c = λ e h. c.requires.small e (in_middle c.args.from c.args.to c.args.events.now e h)
