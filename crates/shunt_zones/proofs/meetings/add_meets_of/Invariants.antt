use Rattle.std.proofs.Common.{◌≡◌, ◌++◌, drop}
use Rattle.std.specs.List.{filter_map}
use Rattle.shunt_zones.specs.defs.Meetings.{meet_of}
use Rattle.shunt_zones.proofs.meetings.add_meets_of.Given as goal

abbrev pub invariant-loop-second : goal.invariant-loop-second
invariant-loop-second l = l.meets.items ++ filter_map (meet_of l.first) (drop l.second-index l.later) ≡ l.fn.meets.items ++ filter_map (meet_of l.first) l.later
