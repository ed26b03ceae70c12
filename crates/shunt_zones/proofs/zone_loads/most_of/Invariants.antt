use Rattle.std.proofs.Common.{◌≡◌, ◌≤◌, max, map, drop, length}
use Rattle.shunt_zones.specs.defs.Loads.{times, greatest, most_of}
use Rattle.shunt_zones.proofs.zone_loads.most_of.Given as goal

abbrev pub invariant-loop-minute : goal.invariant-loop-minute
invariant-loop-minute l = record {
  most : max l.most (greatest (map (times l.minutes) (drop l.minute-index l.minutes))) ≡ most_of l.minutes;
  few : l.most ≤ length l.minutes;
}
