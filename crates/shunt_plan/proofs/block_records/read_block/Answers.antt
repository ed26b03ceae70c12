use Rattle.std.proofs.Common.{sym}
use Rattle.shunt_plan.proofs.Parts.{runs_fail, option_fails, block_is}
use Rattle.shunt_plan.proofs.block_records.read_block.Goals as goal
use Rattle.shunt_rows.proofs.Answered.{err_is}

pub returns-in_err-block : goal.returns-in_err-block
returns-in_err-block c = err_is c.from_residual.result _ _ c.from_residual.ensures.1
    (runs_fail c.args.n c.args.instance.now c.args.blocks.now c.args.row.now _ (sym c.in_err-block.ensures.answer))

pub returns-in_err-block-2 : goal.returns-in_err-block-2
returns-in_err-block-2 c = err_is c.from_residual-in_err-block-2.result _ _ c.from_residual-in_err-block-2.ensures.1
    (option_fails c.args.n c.args.instance.now c.args.blocks.now c.args.row.now _ _ (sym c.in_ok-block.ensures.answer) (sym c.in_err-block-2.ensures))

pub returns : goal.returns
returns c = sym (block_is c.args.n c.args.instance.now c.args.blocks.now c.args.row.now _ _ (sym c.in_ok-block.ensures.answer) (sym c.in_ok-block-2.ensures))
