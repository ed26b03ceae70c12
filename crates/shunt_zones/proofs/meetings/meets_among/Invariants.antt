use Rattle.std.proofs.Common.{◌≡◌, ◌++◌, drop}
use Rattle.shunt_zones.specs.defs.Meetings.{meets_among}
use Rattle.shunt_zones.proofs.meetings.meets_among.Given as goal

abbrev pub invariant-loop-i : goal.invariant-loop-i
invariant-loop-i l = l.meets.items ++ meets_among (drop l.i l.moves) ≡ meets_among l.moves
