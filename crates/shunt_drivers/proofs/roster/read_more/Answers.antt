use Rattle.shunt_rows.specs.declared.fault.ReadError.TheVariants as errors
use Rattle.shunt_rows.proofs.Joins.{gives_err}
use Rattle.shunt_drivers.proofs.Parts.{one_more, none_more, seen_as}
use Rattle.shunt_drivers.proofs.roster.read_more.Goals as goal

pub returns-in_err-duty : goal.returns-in_err-duty
returns-in_err-duty c = gives_err _ _ (errors.Fault c.in_err-duty.field-0.0) _ c.from_residual.ensures.1
    (none_more c.args.n c.args.moves.now c.args.duties.now.items c.args.row.now _
    (seen_as c.args.n c.args.moves.now c.args.row.now c.deref.result.now c.args.duties.now.items _ c.deref.ensures.value c.in_err-duty.ensures))

pub returns : goal.returns
returns c = one_more c.args.n c.args.moves.now c.args.duties.now.items c.push.new.self.items c.args.row.now _
    (seen_as c.args.n c.args.moves.now c.args.row.now c.deref.result.now c.args.duties.now.items _ c.deref.ensures.value c.in_ok-duty.ensures) c.in_ok-push.ensures.items
