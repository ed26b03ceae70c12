use Rattle.shunt_gains.specs.defs.Tables.{spans_of, AreByEvent}
use Rattle.shunt_gains.proofs.pieces.by_event.Given as goal

abbrev pub invariant-events : goal.invariant-events
invariant-events l = AreByEvent (spans_of l.pieces) l.x l.lists.items
