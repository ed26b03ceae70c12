use Rattle.std.proofs.Common.{◌≡◌, drop}
use Rattle.shunt_drivers.specs.defs.RosterFaults.{absent_in}
use Rattle.shunt_drivers.proofs.faults.absent_in.Given as goal

abbrev pub invariant-loop-event : goal.invariant-loop-event
invariant-loop-event l = absent_in l.duties (drop l.event-index l.moves) ≡ absent_in l.duties l.moves
