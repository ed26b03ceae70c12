use Rattle.std.proofs.Common.{◌∙◌}
use Rattle.shunt_rows.specs.declared.fault.ReadError.TheVariants as errors
use Rattle.shunt_rows.proofs.Joins.{gives_err}
use Rattle.shunt_plan.proofs.Parts.{one_turn, no_turn}
use Rattle.shunt_plan.proofs.edits.read_more.Goals as goal

pub returns-in_err-turn : goal.returns-in_err-turn
returns-in_err-turn c =
    let e = c.in_err-turn.field-0.0 in
    gives_err _ _ (errors.Fault e) _ c.from_residual.ensures.1 (no_turn c.args.n c.args.instance.now c.args.turns.now.items _ c.args.row.now e
    (c.len.ensures ∙ c.args.turns.now.ok.0) c.in_err-turn.ensures)

pub returns : goal.returns
returns c = one_turn c.args.n c.args.instance.now c.args.turns.now.items _ _ c.args.row.now c.in_ok-turn.turn
    (c.len.ensures ∙ c.args.turns.now.ok.0) c.in_ok-turn.ensures c.in_ok-push.ensures.items
