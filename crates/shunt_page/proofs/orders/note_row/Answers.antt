use Rattle.std.specs.Prelude.{option_map}
use Rattle.std.proofs.Common.{sym, ap, ◌∙◌}
use Rattle.shunt_page.proofs.Ordered.{found_within}
use Rattle.shunt_page.proofs.orders.note_row.Goals as goal

pub row_of-requires-clause-block : goal.row_of-requires-clause-block
row_of-requires-clause-block c = found_within c.args.instance.now c.args.blocks.now c.args.order.now.id c.in-Some.block.now c.requires.each
    (sym c.block_with.ensures ∙ ap (option_map (λ b. b.now)) c.in-Some.is)
