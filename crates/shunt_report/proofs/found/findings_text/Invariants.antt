use Rattle.std.proofs.Common.{◌≡◌, take}
use Rattle.std.specs.List.{flat_map}
use Rattle.shunt_report.specs.defs.FindingTexts.{finding_line}
use Rattle.shunt_report.proofs.found.findings_text.Given as goal

abbrev pub invariant-loop-finding : goal.invariant-loop-finding
invariant-loop-finding l = record {
  done : l.text ≡ flat_map (finding_line l.instance) (take l.finding-index l.findings);
}
