use Rattle.std.proofs.Common.{◌≡◌, ◌++◌, filter, not, drop}
use Rattle.shunt_zones.specs.defs.Moves.{has_been}
use Rattle.shunt_zones.proofs.moves.but_past.Given as goal

abbrev pub invariant-loop-event : goal.invariant-loop-event
invariant-loop-event l = l.moves.items ++ filter (λ e. not (has_been l.instance l.blocks e.key)) (drop l.event-index l.events)
    ≡ filter (λ e. not (has_been l.instance l.blocks e.key)) l.events
