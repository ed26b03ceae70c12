use Rattle.std.proofs.Common.{◌≡◌, ◌++◌, drop}
use Rattle.std.specs.List.{flat_map}
use Rattle.shunt_report.specs.defs.ZonesTexts.{meet_line}
use Rattle.shunt_report.proofs.zones.push_meets.Given as goal

abbrev pub invariant-loop-meet : goal.invariant-loop-meet
invariant-loop-meet l = l.text ++ flat_map (meet_line l.zones) (drop l.meet-index l.meets) ≡ l.fn.text ++ flat_map (meet_line l.zones) l.meets
