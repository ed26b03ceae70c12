use Rattle.std.proofs.Common.{◌≡◌, drop}
use Rattle.shunt_drivers.specs.defs.RosterFormat.{move_named}
use Rattle.shunt_drivers.proofs.roster.move_named.Given as goal

abbrev pub invariant-loop-event : goal.invariant-loop-event
invariant-loop-event l = move_named (l.enters, l.id) (drop l.event-index l.moves) ≡ move_named (l.enters, l.id) l.moves
