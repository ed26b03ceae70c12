use Rattle.std.proofs.Common.{◌≡◌, ◌++◌, map, filter, drop}
use Rattle.shunt_zones.specs.defs.Passed.{lies_on}
use Rattle.shunt_zones.proofs.passages.zones_of.Given as goal

abbrev pub invariant-loop-over : goal.invariant-loop-over
invariant-loop-over l = l.own.items ++ map (λ o. o.zone) (filter (lies_on l.origin l.event.track l.event.side) (drop l.over-index l.over-items))
    ≡ map (λ o. o.zone) (filter (lies_on l.origin l.event.track l.event.side) l.zones.over)
