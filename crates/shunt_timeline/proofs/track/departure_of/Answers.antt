use Rattle.shunt_timeline.proofs.Removals.{well, places_apart, leave_found}
use Rattle.shunt_timeline.proofs.track.departure_of.Goals as goal

pub place-requires-clause-formed : goal.place-requires-clause-formed
place-requires-clause-formed c = well c.requires.0 c.args.stay.now c.args.events.now c.requires.1 c.requires.2

pub place-requires-2-clause-formed : goal.place-requires-2-clause-formed
place-requires-2-clause-formed c = well c.requires.0 c.args.stay.now c.args.events.now c.requires.1 c.requires.2

pub returns-clause-order : goal.returns-clause-order
returns-clause-order c = places_apart c.requires.0 c.args.stay.now c.args.events.now c.requires.1 c.requires.2 c.place.result c.place-2.result c.place.ensures c.place-2.ensures

pub returns-clause-within : goal.returns-clause-within
returns-clause-within c = (leave_found c.requires.0 c.args.stay.now c.args.events.now c.requires.1 c.requires.2 c.place-2.result c.place-2.ensures).0
