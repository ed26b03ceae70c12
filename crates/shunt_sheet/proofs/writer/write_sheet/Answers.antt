use Rattle.std.proofs.Common.{◌≡◌, ◌<◌, ◌∙◌, length, sym, subst}
use Rattle.std.specs.Prelude.{All}
use Rattle.shunt_rows.specs.defs.Records.{text_of_rows}
use Rattle.shunt_rows.proofs.Texts.{if_ok}
use Rattle.shunt_sheet.specs.defs.SheetRows.{rows_of}
use Rattle.shunt_sheet.proofs.RoundTrip.{on_tracks, back_from, sheet_written}
use Rattle.shunt_sheet.proofs.Lengths.{short_from}
use Rattle.shunt_sheet.proofs.writer.write_sheet.Goals as goal

pub write_orders-requires-clause-tracks : goal.write_orders-requires-clause-tracks
write_orders-requires-clause-tracks c = subst (All (λ o. o.track.0 < length c.args.station.now.tracks)) (sym c.deref.ensures.value)
    (on_tracks c.args.station.now c.args.orders.now.items c.requires.orders)

whole : (c : goal.After-finish) → c.write_orders.new.writer.text ≡ text_of_rows (rows_of c.args.station.now c.args.orders.now.items)
whole c = sheet_written c.args.station.now c.args.orders.now.items _ _ _ _ c.deref.ensures.value c.in_ok-writer.ensures c.in_ok-write_head.ensures c.in_ok-write_orders.ensures

pub returns-clause-text : goal.returns-clause-text
returns-clause-text c = if_ok c.finish.result _ _ c.finish.ensures.text (λ v is. is ∙ whole c)

pub returns-clause-again : goal.returns-clause-again
returns-clause-again c = if_ok c.finish.result _ _ c.finish.ensures.again (λ v back.
    back_from c.args.station.now c.args.orders.now.items c.requires.station c.requires.orders _ v.items (whole c) back)

pub returns-clause-short : goal.returns-clause-short
returns-clause-short c = if_ok c.finish.result _ _ c.finish.ensures.text (λ v is.
    short_from c.args.station.now c.args.orders.now.items c.requires.station c.requires.orders _ v.items (whole c) is)
