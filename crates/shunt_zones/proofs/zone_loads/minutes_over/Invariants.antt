use Rattle.std.proofs.Common.{◌≡◌, ◌≤◌, ◌<◌, ◌++◌, All, drop, length}
use Rattle.shunt_zones.specs.defs.Loads.{minutes_over}
use Rattle.shunt_zones.proofs.zone_loads.minutes_over.Given as goal

abbrev pub invariant-loop-passing : goal.invariant-loop-passing
invariant-loop-passing l = record {
  exact : l.minutes.items ++ minutes_over l.zone (drop l.passing-index l.moves) ≡ minutes_over l.zone l.moves;
  small : All (λ m. m < 2880) l.minutes.items;
  few : length l.minutes.items ≤ l.passing-index;
}
