use Rattle.std.proofs.Common.{◌∙◌}
use Rattle.shunt_page.specs.defs.RowTexts.{filling_item}
use Rattle.shunt_picture.proofs.Drawn.{one_entry}
use Rattle.shunt_page.proofs.row_texts.push_fillings.Goals as goal

pub loop-i-preserved : goal.loop-i-preserved
loop-i-preserved c = one_entry filling_item c.args.fillings.now c.loop-i.i c.index-fillings-i.result _ c.loop-i.text c.push_filling.new.text c.loop-i-test.true
    c.index-fillings-i.is c.in_ok-push_filling.ensures ∙ c.loop-i.invariant
