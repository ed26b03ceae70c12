use Rattle.std.proofs.Common.{sym, subst}
use Rattle.shunt_recount.specs.defs.Moments.{AreRows}
use Rattle.shunt_recount.proofs.Rowed.{begun}
use Rattle.shunt_recount.proofs.known.begin.Goals as goal

pub returns-in_err-push : goal.returns-in_err-push
returns-in_err-push c = λ m known is. subst (AreRows m) (sym c.in_err-push.ensures.items) known

pub returns-in_err-push-2 : goal.returns-in_err-push-2
returns-in_err-push-2 c = λ m known is. begun m c.args.known.now.rows.items c.push.new.self.items c.args.row c.in_ok-push.ensures.items known is

pub returns-in_ok-push-2 : goal.returns-in_ok-push-2
returns-in_ok-push-2 c = λ m known is. begun m c.args.known.now.rows.items c.push.new.self.items c.args.row c.in_ok-push.ensures.items known is

pub returns-in_default : goal.returns-in_default
returns-in_default c = λ m known is. begun m c.args.known.now.rows.items c.push.new.self.items c.args.row c.in_ok-push.ensures.items known is
