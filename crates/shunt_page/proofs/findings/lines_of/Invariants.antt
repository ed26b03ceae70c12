use Rattle.std.proofs.Common.{◌≡◌, map, take}
use Rattle.shunt_page.specs.defs.Findings.{finding_line}
use Rattle.shunt_page.proofs.findings.lines_of.Given as goal

abbrev pub invariant-loop-finding : goal.invariant-loop-finding
invariant-loop-finding l = l.lines.items ≡ map (finding_line l.instance) (take l.finding-index l.findings)
