use Rattle.std.proofs.Common.{◌≡◌, ap, ◌∙◌}
use Rattle.shunt_rows.proofs.Texts.{if_ok}
use Rattle.shunt_rows.specs.defs.Records.{text_of_rows}
use Rattle.shunt_plan.specs.defs.PinsRows.{rows_of_pins}
use Rattle.shunt_plan.proofs.PinsBack.{pins_back_from, pins_short_from}
use Rattle.shunt_plan.proofs.pins_writer.write_pins.Goals as goal

whole : (c : goal.After-finish) → c.in_ok-written.field-0.text ≡ text_of_rows (rows_of_pins c.args.instance.now c.args.pins.now)
whole c = ap (λ w. w.text) c.in_ok-written.ensures

pub returns-clause-again : goal.returns-clause-again
returns-clause-again c = if_ok c.finish.result _ _ c.finish.ensures.again (λ v p. pins_back_from c.args.instance.now c.station.ensures.formed c.args.pins.now c.requires _ v.items
    (whole c) p)

pub returns-clause-short : goal.returns-clause-short
returns-clause-short c = if_ok c.finish.result _ _ c.finish.ensures.text (λ v p. pins_short_from c.args.instance.now c.station.ensures.formed c.args.pins.now c.requires _ v.items
    (whole c) p)
