use Rattle.std.proofs.Common.{◌++◌, codes}
use Rattle.shunt_page.specs.defs.PageTexts.{finding_items}
use Rattle.shunt_picture.proofs.Chained.{add}
use Rattle.shunt_page.proofs.page_texts.push_findings_list.Goals as goal
use Rattle.shunt_lists.proofs.Options.{on_ok}

pub returns : goal.returns
unfolding Rattle.shunt_page.specs.defs.PageTexts.findings_list
returns c = on_ok c.push-2.result _ _ c.push-2.ensures (λ last. add c.args.text.now c.push_finding_items.new.text c.push-2.new.self
    (codes "<ol class='bad'>\n" ++ finding_items c.args.findings.now) (codes "</ol>\n")
    (add c.args.text.now c.push.new.self c.push_finding_items.new.text (codes "<ol class='bad'>\n")
    (finding_items c.args.findings.now) c.in_ok-push.ensures c.in_ok-push_finding_items.ensures) last)
