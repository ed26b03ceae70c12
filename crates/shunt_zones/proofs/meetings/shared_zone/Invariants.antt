use Rattle.std.proofs.Common.{◌≡◌, filter, drop}
use Rattle.shunt_zones.specs.defs.Passed.{has_zone}
use Rattle.shunt_blocks.specs.defs.Least.{lesser}
use Rattle.shunt_zones.specs.defs.Meetings.{least_of}
use Rattle.shunt_zones.proofs.meetings.shared_zone.Given as goal

abbrev pub invariant-loop-zone : goal.invariant-loop-zone
invariant-loop-zone l = lesser l.least (least_of (filter (has_zone l.other) (drop l.zone-index l.own))) ≡ least_of (filter (has_zone l.other) l.own)
