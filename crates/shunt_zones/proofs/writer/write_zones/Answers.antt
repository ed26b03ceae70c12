use Rattle.std.proofs.Common.{◌≡◌, ◌∙◌}
use Rattle.shunt_rows.specs.defs.Records.{text_of_rows}
use Rattle.shunt_rows.proofs.Texts.{if_ok}
use Rattle.shunt_zones.specs.defs.ZonesRows.{rows_of}
use Rattle.shunt_zones.proofs.RoundTrip.{back_from, zones_written}
use Rattle.shunt_zones.proofs.writer.write_zones.Goals as goal

whole : (c : goal.After-finish) → c.write_overs.new.writer.text ≡ text_of_rows (rows_of c.args.station.now c.args.zones.now)
whole c = zones_written c.args.station.now c.args.zones.now _ _ _ _ _ _ c.as_slice-names.ensures c.as_slice.ensures c.in_ok-writer.ensures c.in_ok-write_head.ensures
    c.in_ok-write_names.ensures c.in_ok-write_overs.ensures

pub returns-clause-text : goal.returns-clause-text
returns-clause-text c = if_ok c.finish.result _ _ c.finish.ensures.text (λ v is. is ∙ whole c)

pub returns-clause-again : goal.returns-clause-again
returns-clause-again c = if_ok c.finish.result _ _ c.finish.ensures.again (λ v back. back_from c.args.station.now c.args.zones.now c.requires.station c.requires.zones _ v.items
    (whole c) back)
