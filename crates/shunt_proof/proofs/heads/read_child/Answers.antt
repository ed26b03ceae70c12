use Rattle.shunt_plan.proofs.Parts.{handed}
use Rattle.shunt_proof.proofs.Parts.{head_fails, option_fails, child_is}
use Rattle.shunt_proof.proofs.heads.read_child.Goals as goal

pub returns-in_err-head-clause-answer : goal.returns-in_err-head-clause-answer
returns-in_err-head-clause-answer c = handed _ _ c.in_err-head.field-0.0 c.from_residual.ensures.1
    (head_fails c.args.n c.args.instance.now c.args.begun c.args.last c.args.row.now _ c.in_err-head.ensures.answer)

pub returns-in_err-choice-clause-answer : goal.returns-in_err-choice-clause-answer
returns-in_err-choice-clause-answer c = handed _ _ c.in_err-choice.field-0.0 c.from_residual-in_err-choice.ensures.1
    (option_fails c.args.n c.args.instance.now c.args.begun c.args.last c.args.row.now
    (c.in_ok-head.head, c.in_ok-head.choice) _ c.in_ok-head.ensures.answer c.in_err-choice.ensures)

pub returns-clause-answer : goal.returns-clause-answer
returns-clause-answer c = child_is c.args.n c.args.instance.now c.args.begun c.args.last c.args.row.now
    (c.in_ok-head.head, c.in_ok-head.choice) c.in_ok-choice.field-0 c.in_ok-head.ensures.answer c.in_ok-choice.ensures
