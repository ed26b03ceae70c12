use Rattle.std.proofs.Common.{◌≡◌, map, take}
use Rattle.shunt_zones.specs.defs.Passed.{passing_of}
use Rattle.shunt_zones.proofs.passages.passings_from.Given as goal

abbrev pub invariant-loop-event : goal.invariant-loop-event
invariant-loop-event l = l.passings.items ≡ map (passing_of l.instance l.zones) (take l.event-index l.moves)
