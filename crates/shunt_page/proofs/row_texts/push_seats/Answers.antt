use Rattle.std.proofs.Common.{◌∙◌}
use Rattle.shunt_page.specs.defs.RowTexts.{seat_item}
use Rattle.shunt_picture.proofs.Drawn.{one_item}
use Rattle.shunt_page.proofs.row_texts.push_seats.Goals as goal

pub loop-row-preserved : goal.loop-row-preserved
loop-row-preserved c = one_item seat_item c.args.seats.now c.loop-row.row-index c.row-item.result c.loop-row.text c.push_seat.new.text c.loop-row-test.true c.row-item.is
    c.in_ok-push_seat.ensures ∙ c.loop-row.invariant
