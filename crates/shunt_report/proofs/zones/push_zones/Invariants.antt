use Rattle.std.proofs.Common.{◌≡◌, ◌++◌, drop}
use Rattle.shunt_report.specs.defs.ZonesTexts.{zone_lines}
use Rattle.shunt_report.proofs.zones.push_zones.Given as goal

abbrev pub invariant-loop-i : goal.invariant-loop-i
invariant-loop-i l = l.text ++ zone_lines (drop l.i l.names) (drop l.i l.loads) ≡ l.fn.text ++ zone_lines l.names l.loads
