use Rattle.std.proofs.Common.{◌++◌, codes, decimal}
use Rattle.shunt_picture.proofs.Chained.{add}
use Rattle.shunt_page.proofs.row_texts.push_fact.Goals as goal
use Rattle.shunt_lists.proofs.Options.{on_ok}

pub returns : goal.returns
unfolding Rattle.shunt_page.specs.defs.RowTexts.fact_row
returns c = on_ok c.push-4.result _ _ c.push-4.ensures (λ last. add c.args.text.now c.push_number.new.self c.push-4.new.self
    (codes "<tr><th scope='row'>" ++ c.args.words.now ++ codes "</th><td class='n'>" ++ decimal c.args.number) (codes "</td></tr>\n")
    (add c.args.text.now c.push-3.new.self c.push_number.new.self (codes "<tr><th scope='row'>" ++ c.args.words.now ++ codes "</th><td class='n'>") (decimal c.args.number)
    (add c.args.text.now c.push-2.new.self c.push-3.new.self (codes "<tr><th scope='row'>" ++ c.args.words.now) (codes "</th><td class='n'>")
    (add c.args.text.now c.push.new.self c.push-2.new.self (codes "<tr><th scope='row'>") (c.args.words.now) c.in_ok-push.ensures c.in_ok-push-2.ensures) c.in_ok-push-3.ensures)
    c.in_ok-push_number.ensures) last)
