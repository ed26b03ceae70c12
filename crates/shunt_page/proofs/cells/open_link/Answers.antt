use Rattle.std.proofs.Common.{◌++◌, codes, decimal, ap, ◌∙◌}
use Rattle.shunt_picture.proofs.Chained.{add}
use Rattle.shunt_page.proofs.cells.open_link.Goals as goal
use Rattle.shunt_lists.proofs.Options.{on_ok}

pub returns : goal.returns
unfolding Rattle.shunt_page.specs.defs.Cells.link_open
returns c = on_ok c.push-2.result _ _ c.push-2.ensures (λ last. add c.args.text.now c.push_number.new.self c.push-2.new.self (codes "<a href='#b" ++ decimal c.args.id) (codes "'>")
    (add c.args.text.now c.push.new.self c.push_number.new.self (codes "<a href='#b") (decimal c.args.id) c.in_ok-push.ensures
    (c.in_ok-push_number.ensures ∙ ap (λ n. c.push.new.self ++ decimal n) c.from.ensures)) last)
