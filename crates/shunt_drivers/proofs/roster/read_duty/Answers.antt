use Rattle.std.proofs.Common.{sym}
use Rattle.shunt_drivers.proofs.Parts.{driver_fails, move_fails, duty_is}
use Rattle.shunt_drivers.proofs.roster.read_duty.Goals as goal
use Rattle.shunt_rows.proofs.Answered.{err_is}

pub returns-in_err-driver : goal.returns-in_err-driver
returns-in_err-driver c = err_is c.from_residual.result _ _ c.from_residual.ensures.1
    (driver_fails c.args.n c.args.moves.now c.args.duties.now c.args.row.now _ (sym c.in_err-driver.ensures.answer))

pub returns-in_err-event : goal.returns-in_err-event
returns-in_err-event c = err_is c.from_residual-in_err-event.result _ _ c.from_residual-in_err-event.ensures.1
    (move_fails c.args.n c.args.moves.now c.args.duties.now c.args.row.now _ _ (sym c.in_ok-driver.ensures.answer) (sym c.in_err-event.ensures))

pub returns : goal.returns
returns c = sym (duty_is c.args.n c.args.moves.now c.args.duties.now c.args.row.now _ _ (sym c.in_ok-driver.ensures.answer) (sym c.in_ok-event.ensures))
