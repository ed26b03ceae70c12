use Rattle.std.proofs.Common.{◌≡◌, ◌++◌, drop}
use Rattle.std.specs.List.{flat_map}
use Rattle.shunt_page.specs.defs.RowTexts.{finding_item}
use Rattle.shunt_page.proofs.page_texts.push_finding_items.Given as goal

abbrev pub invariant-loop-finding : goal.invariant-loop-finding
invariant-loop-finding l = l.text ++ flat_map finding_item (drop l.finding-index l.findings) ≡ l.fn.text ++ flat_map finding_item l.findings
