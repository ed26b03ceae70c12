use Rattle.std.proofs.Common.{◌++◌, codes, decimal}
use Rattle.shunt_picture.proofs.Chained.{add}
use Rattle.shunt_page.proofs.cells.push_number_cell.Goals as goal
use Rattle.shunt_lists.proofs.Options.{on_ok}

pub returns : goal.returns
unfolding Rattle.shunt_page.specs.defs.Cells.number_cell
returns c = on_ok c.push-2.result _ _ c.push-2.ensures (λ last. add c.args.text.now c.push_number.new.self c.push-2.new.self (codes "<td class='n'>" ++ decimal c.args.number)
    (codes "</td>") (add c.args.text.now c.push.new.self c.push_number.new.self (codes "<td class='n'>")
    (decimal c.args.number) c.in_ok-push.ensures c.in_ok-push_number.ensures) last)
