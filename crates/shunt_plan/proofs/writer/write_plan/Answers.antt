use Rattle.std.proofs.Common.{◌≡◌, ◌≤◌, ◌∙◌, ℕ, List, length, sym, subst}
use Rattle.shunt_rows.proofs.Texts.{if_ok}
use Rattle.shunt_rows.specs.defs.Records.{text_of_rows}
use Rattle.shunt_plan.specs.defs.PlanRows.{rows_of}
use Rattle.shunt_plan.proofs.RoundTrip.{back_from}
use Rattle.shunt_plan.proofs.Lengths.{plan_short}
use Rattle.shunt_plan.proofs.Lengths.{plan_written}
use Rattle.shunt_plan.proofs.writer.write_plan.Goals as goal

whole : (c : goal.After-finish) → c.write_cost.new.writer.text ≡ text_of_rows (rows_of c.args.instance.now c.args.plan.now)
whole c = plan_written c.args.instance.now c.args.plan.now _ _ _ _ _ c.as_slice.ensures c.in_ok-writer.ensures c.in_ok-write_head.ensures c.in_ok-write_blocks.ensures
    c.in_ok-write_cost.ensures

pub returns-clause-text : goal.returns-clause-text
returns-clause-text c = if_ok c.finish.result _ _ c.finish.ensures.text (λ v is. is ∙ whole c)

pub returns-clause-again : goal.returns-clause-again
returns-clause-again c = if_ok c.finish.result _ _ c.finish.ensures.again (λ v back. back_from c.args.instance.now c.args.plan.now c.arrivals.ensures.formed c.requires _ v.items
    (whole c) back)

pub returns-clause-short : goal.returns-clause-short
returns-clause-short c = if_ok c.finish.result _ _ c.finish.ensures.text (λ v is. subst (λ (t : List ℕ). length t ≤ 32026) (sym (is ∙ whole c))
    (plan_short c.args.instance.now c.args.plan.now c.arrivals.ensures.formed c.requires))
