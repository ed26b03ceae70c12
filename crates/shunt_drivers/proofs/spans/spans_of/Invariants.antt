use Rattle.std.proofs.Common.{◌≡◌, map, take}
use Rattle.shunt_drivers.specs.defs.Spans.{span_of}
use Rattle.shunt_drivers.proofs.spans.spans_of.Given as goal

abbrev pub invariant-loop-event : goal.invariant-loop-event
invariant-loop-event l = l.spans.items ≡ map (span_of l.instance l.crew) (take l.event-index l.moves)
