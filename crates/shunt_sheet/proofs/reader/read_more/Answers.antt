use Rattle.shunt_rows.specs.declared.fault.ReadError.TheVariants as errors
use Rattle.shunt_rows.proofs.Joins.{gives_err}
use Rattle.shunt_sheet.proofs.Parts.{one_more, none_more, seen_as}
use Rattle.shunt_sheet.proofs.reader.read_more.Goals as goal

pub returns-in_err-order : goal.returns-in_err-order
returns-in_err-order c = gives_err _ _ (errors.Fault c.in_err-order.field-0.0) _ c.from_residual.ensures.1
    (none_more c.args.n c.args.station.now c.args.orders.now.items c.args.row.now _
    (seen_as c.args.n c.args.station.now c.args.row.now c.deref.result.now c.args.orders.now.items _ c.deref.ensures.value c.in_err-order.ensures))

pub returns : goal.returns
returns c = one_more c.args.n c.args.station.now c.args.orders.now.items c.push.new.self.items c.args.row.now _
    (seen_as c.args.n c.args.station.now c.args.row.now c.deref.result.now c.args.orders.now.items _ c.deref.ensures.value c.in_ok-order.ensures) c.in_ok-push.ensures.items
