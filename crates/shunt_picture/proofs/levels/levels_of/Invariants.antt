use Rattle.std.proofs.Common.{◌≡◌, ◌≤◌, ◌-◌}
use Rattle.shunt_picture.specs.defs.Levels.{levels_of}
use Rattle.shunt_picture.proofs.levels.levels_of.Given as goal

abbrev pub invariant-loop-minute : goal.invariant-loop-minute
invariant-loop-minute l = record {
  from : l.from ≤ l.minute;
  to : l.minute - l.from ≤ l.to - l.from;
  levels : l.levels.items ≡ levels_of l.stays l.from (l.minute - l.from);
}
