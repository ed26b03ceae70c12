use Rattle.shunt_page.proofs.Rowed.{ordered}
use Rattle.shunt_page.proofs.orders.rows_from.Goals as goal

pub note_row-requires-clause-track : goal.note_row-requires-clause-track
note_row-requires-clause-track c = ordered c.args.instance.now.station c.args.orders.now c.loop-order.order-index c.order-item.result c.requires.orders c.loop-order-test.true
    c.order-item.is
