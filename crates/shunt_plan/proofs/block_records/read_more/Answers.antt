use Rattle.std.proofs.Common.{sym}
use Rattle.shunt_rows.specs.declared.fault.ReadError.TheVariants as errors
use Rattle.shunt_rows.proofs.Joins.{gives_err}
use Rattle.shunt_plan.proofs.Parts.{one_more, none_more, seen_as}
use Rattle.shunt_plan.proofs.block_records.read_more.Goals as goal

pub returns-in_err-block : goal.returns-in_err-block
returns-in_err-block c = gives_err _ _ (errors.Fault c.in_err-block.field-0.0) _ c.from_residual.ensures.1
    (none_more c.args.n c.args.instance.now c.args.blocks.now.items c.args.row.now _
    (seen_as c.args.n c.args.instance.now c.args.row.now c.deref.result.now c.args.blocks.now.items _ c.deref.ensures.value (sym c.in_err-block.ensures)))

pub returns : goal.returns
returns c = one_more c.args.n c.args.instance.now c.args.blocks.now.items c.push.new.self.items c.args.row.now _
    (seen_as c.args.n c.args.instance.now c.args.row.now c.deref.result.now c.args.blocks.now.items _ c.deref.ensures.value (sym c.in_ok-block.ensures)) c.in_ok-push.ensures.items
