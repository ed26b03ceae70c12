use Rattle.std.proofs.Common.{◌≡◌, drop}
use Rattle.std.specs.Prelude.{find, ◌==◌}
use Rattle.shunt_zones.specs.defs.Loads.{times, busiest_of}
use Rattle.shunt_zones.proofs.zone_loads.busiest_of.Given as goal

abbrev pub invariant-loop-minute : goal.invariant-loop-minute
invariant-loop-minute l = find (λ m. times l.minutes m == l.most) (drop l.minute-index l.minutes) ≡ busiest_of l.minutes
