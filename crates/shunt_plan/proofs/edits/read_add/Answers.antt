use Rattle.shunt_plan.proofs.Parts.{add_runs_fail, park_fails, add_is, handed}
use Rattle.shunt_plan.proofs.edits.read_add.Goals as goal

pub returns-in_err-runs : goal.returns-in_err-runs
returns-in_err-runs c = handed _ _ c.in_err-runs.field-0.0 c.from_residual.ensures.1 (add_runs_fail _ _ _ _ _ c.in_err-runs.ensures.answer)

pub returns-in_err-park : goal.returns-in_err-park
returns-in_err-park c = handed _ _ c.in_err-park.field-0.0 c.from_residual-in_err-park.ensures.1
    (park_fails _ _ _ _ c.in_ok-runs.runs _ c.in_ok-runs.ensures.answer c.in_err-park.ensures)

pub returns : goal.returns
returns c = add_is _ _ _ _ c.in_ok-runs.runs c.in_ok-park.park c.in_ok-runs.ensures.answer c.in_ok-park.ensures
