use Rattle.std.proofs.Common.{◌≡◌, ap, ◌∙◌}
use Rattle.shunt_rows.proofs.Texts.{if_ok}
use Rattle.shunt_rows.specs.defs.Records.{text_of_rows}
use Rattle.shunt_plan.specs.defs.WrittenEdits.{rows_of_edits}
use Rattle.shunt_plan.proofs.RoundTrip.{edits_back_from}
use Rattle.shunt_plan.proofs.Lengths.{short_from}
use Rattle.shunt_plan.proofs.edits_writer.write_edits.Goals as goal

whole : (c : goal.After-finish) → c.in_ok-written.field-0.text ≡ text_of_rows (rows_of_edits c.args.instance.now c.args.turns.now.items)
whole c = ap (λ w. w.text) c.in_ok-written.ensures ∙ ap (λ l. text_of_rows (rows_of_edits c.args.instance.now l)) c.deref.ensures.value

pub returns-clause-again : goal.returns-clause-again
returns-clause-again c = if_ok c.finish.result _ _ c.finish.ensures.again (λ v p.
    edits_back_from c.args.instance.now c.station.ensures.formed c.args.turns.now.items c.requires _ v.items (whole c) p)

pub returns-clause-short : goal.returns-clause-short
returns-clause-short c = if_ok c.finish.result _ _ c.finish.ensures.text (λ v p. short_from c.args.instance.now c.station.ensures.formed c.args.turns.now.items c.requires _ v.items
    (whole c) p)
