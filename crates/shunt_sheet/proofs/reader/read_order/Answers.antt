use Rattle.std.proofs.Common.{sym}
use Rattle.shunt_sheet.proofs.Parts.{start_fails, move_fails, place_fails, order_is}
use Rattle.shunt_sheet.proofs.reader.read_order.Goals as goal
use Rattle.shunt_rows.proofs.Answered.{err_is}

pub returns-in_err-minute : goal.returns-in_err-minute
returns-in_err-minute c = err_is c.from_residual.result _ _ c.from_residual.ensures.1
    (start_fails c.args.n c.args.station.now c.args.orders.now c.args.row.now _ (sym c.in_err-minute.ensures.answer))

pub returns-in_err-named : goal.returns-in_err-named
returns-in_err-named c = err_is c.from_residual-in_err-named.result _ _ c.from_residual-in_err-named.ensures.1
    (move_fails c.args.n c.args.station.now c.args.orders.now c.args.row.now _ _ (sym c.in_ok-minute.ensures.answer) (sym c.in_err-named.ensures))

pub returns-in_err-place : goal.returns-in_err-place
returns-in_err-place c = err_is c.from_residual-in_err-place.result _ _ c.from_residual-in_err-place.ensures.1
    (place_fails c.args.n c.args.station.now c.args.orders.now c.args.row.now _ _ _ (sym c.in_ok-minute.ensures.answer) (sym c.in_ok-named.ensures) (sym c.in_err-place.ensures))

pub returns : goal.returns
returns c = sym (order_is c.args.n c.args.station.now c.args.orders.now c.args.row.now _ _ _ (sym c.in_ok-minute.ensures.answer) (sym c.in_ok-named.ensures)
    (sym c.in_ok-place.ensures))
