use Rattle.std.proofs.Common.{◌≡◌, ◌∙◌}
use Rattle.shunt_rows.specs.defs.Records.{text_of_rows}
use Rattle.shunt_rows.proofs.Texts.{if_ok}
use Rattle.shunt_zones.specs.defs.Moves.{moves_of}
use Rattle.shunt_drivers.specs.defs.RosterRows.{rows_of}
use Rattle.shunt_drivers.proofs.RoundTrip.{back_from, roster_written}
use Rattle.shunt_drivers.proofs.Lengths.{short_from}
use Rattle.shunt_drivers.proofs.writer.write_roster.Goals as goal

whole : (c : goal.After-finish) → c.write_duties.new.writer.text ≡ text_of_rows (rows_of c.args.duties.now.items)
whole c = roster_written c.args.duties.now.items _ _ _ _ c.deref.ensures.value c.in_ok-writer.ensures c.in_ok-write_head.ensures c.in_ok-write_duties.ensures

pub returns-clause-text : goal.returns-clause-text
returns-clause-text c = if_ok c.finish.result _ _ c.finish.ensures.text (λ v is. is ∙ whole c)

pub returns-clause-again : goal.returns-clause-again
returns-clause-again c = if_ok c.finish.result _ _ c.finish.ensures.again (λ v back. back_from
    (moves_of c.args.instance.now c.args.plan.now.blocks) c.args.duties.now.items c.requires.duties _ v.items (whole c) back)

pub returns-clause-short : goal.returns-clause-short
returns-clause-short c = if_ok c.finish.result _ _ c.finish.ensures.text (λ v is. short_from
    (moves_of c.args.instance.now c.args.plan.now.blocks) c.args.duties.now.items c.requires.duties _ v.items (whole c) is)
