use Rattle.std.proofs.Common.{◌∙◌}
use Rattle.shunt_page.specs.defs.RowTexts.{already_row}
use Rattle.shunt_picture.proofs.Drawn.{one_item}
use Rattle.shunt_page.proofs.row_texts.push_already_rows.Goals as goal

pub loop-row-preserved : goal.loop-row-preserved
loop-row-preserved c = one_item already_row c.args.rows.now c.loop-row.row-index c.row-item.result c.loop-row.text c.push_already_row.new.text c.loop-row-test.true c.row-item.is
    c.in_ok-push_already_row.ensures ∙ c.loop-row.invariant
