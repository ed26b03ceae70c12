use Rattle.std.proofs.Common.{◌++◌, codes, ap, ◌∙◌}
use Rattle.shunt_picture.proofs.Chained.{add}
use Rattle.shunt_page.proofs.row_texts.push_name_cell.Goals as goal
use Rattle.shunt_lists.proofs.Options.{on_ok}

pub returns : goal.returns
unfolding Rattle.shunt_page.specs.defs.RowTexts.name_cell
returns c = on_ok c.push-3.result _ _ c.push-3.ensures (λ last. add c.args.text.now c.push-2.new.self c.push-3.new.self (codes "<th scope='row'>" ++ c.args.name.now)
    (codes "</th>") (add c.args.text.now c.push.new.self c.push-2.new.self (codes "<th scope='row'>") (c.args.name.now) c.in_ok-push.ensures
    (c.in_ok-push-2.ensures ∙ ap (λ b. c.push.new.self ++ b) c.bytes.ensures.value)) last)
