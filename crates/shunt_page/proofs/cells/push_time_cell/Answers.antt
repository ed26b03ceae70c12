use Rattle.std.proofs.Common.{◌++◌, codes, ap, ◌∙◌}
use Rattle.shunt_base.specs.defs.Spelling.{minute_text}
use Rattle.shunt_picture.proofs.Chained.{add}
use Rattle.shunt_page.proofs.cells.push_time_cell.Goals as goal
use Rattle.shunt_lists.proofs.Options.{on_ok}

pub returns : goal.returns
unfolding Rattle.shunt_page.specs.defs.Cells.time_cell
returns c = on_ok c.push-3.result _ _ c.push-3.ensures (λ last. add c.args.text.now c.push-2.new.self c.push-3.new.self (codes "<td>" ++ minute_text c.args.minute) (codes "</td>")
    (add c.args.text.now c.push.new.self c.push-2.new.self (codes "<td>") (minute_text c.args.minute) c.in_ok-push.ensures
    (c.in_ok-push-2.ensures ∙ ap (λ b. c.push.new.self ++ b) c.minute_bytes.ensures)) last)
