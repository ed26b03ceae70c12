use Rattle.std.proofs.Common.{◌≡◌, ◌≤◌, take}
use Rattle.shunt_zones.specs.defs.Loads.{times}
use Rattle.shunt_zones.proofs.zone_loads.times.Given as goal

abbrev pub invariant-loop-other : goal.invariant-loop-other
invariant-loop-other l = record {
  count : l.times ≡ times (take l.other-index l.minutes) l.minute;
  few : l.times ≤ l.other-index;
}
