use Rattle.std.proofs.Common.{◌∙◌}
use Rattle.shunt_page.specs.defs.RowTexts.{finding_item}
use Rattle.shunt_picture.proofs.Drawn.{one_item}
use Rattle.shunt_page.proofs.page_texts.push_finding_items.Goals as goal

pub loop-finding-preserved : goal.loop-finding-preserved
loop-finding-preserved c = one_item finding_item c.args.findings.now c.loop-finding.finding-index c.finding-item.result c.loop-finding.text c.push_finding.new.text
    c.loop-finding-test.true c.finding-item.is c.in_ok-push_finding.ensures ∙ c.loop-finding.invariant
