use Rattle.std.proofs.Common.{◌≡◌, ◌++◌, drop}
use Rattle.shunt_drivers.specs.defs.RosterFaults.{tasks_of}
use Rattle.shunt_drivers.proofs.faults.tasks_of.Given as goal

abbrev pub invariant-loop-event : goal.invariant-loop-event
invariant-loop-event l = l.tasks.items ++ tasks_of l.instance l.crew l.duties (drop l.event-index l.moves) ≡ tasks_of l.instance l.crew l.duties l.moves
