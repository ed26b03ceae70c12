use Rattle.std.proofs.Common.{◌≡◌, map}
use Rattle.std.specs.List.{range_with_len}
use Rattle.shunt_zones.specs.defs.Loads.{load_of, minutes_over}
use Rattle.shunt_zones.proofs.zone_loads.loads_by.Given as goal

abbrev pub invariant-loop-zone : goal.invariant-loop-zone
invariant-loop-zone l = l.loads.items ≡ map (λ z. load_of (minutes_over z l.moves)) (range_with_len 0 l.zone)
