use Rattle.std.proofs.Common.{◌++◌, codes, decimal, ap, ◌∙◌}
use Rattle.shunt_picture.proofs.Chained.{add}
use Rattle.shunt_page.proofs.row_texts.open_loose_with.Goals as goal
use Rattle.shunt_lists.proofs.Options.{on_ok}

pub returns : goal.returns
unfolding Rattle.shunt_page.specs.defs.RowTexts.loose_with
returns c = on_ok c.push-6.result _ _ c.push-6.ensures (λ last. add c.args.text.now c.push-5.new.self c.push-6.new.self
    (codes "<tr data-block='" ++ decimal c.args.id ++ codes "' data-arrive='" ++ c.args.arr.now ++ codes "' data-depart='" ++ c.args.dep.now) (codes "'>")
    (add c.args.text.now c.push-4.new.self c.push-5.new.self (codes "<tr data-block='" ++ decimal c.args.id ++ codes "' data-arrive='" ++ c.args.arr.now ++ codes "' data-depart='")
    (c.args.dep.now) (add c.args.text.now c.push-3.new.self c.push-4.new.self (codes "<tr data-block='" ++ decimal c.args.id ++ codes "' data-arrive='" ++ c.args.arr.now)
    (codes "' data-depart='") (add c.args.text.now c.push-2.new.self c.push-3.new.self (codes "<tr data-block='" ++ decimal c.args.id ++ codes "' data-arrive='") (c.args.arr.now)
    (add c.args.text.now c.push_number.new.self c.push-2.new.self (codes "<tr data-block='" ++ decimal c.args.id) (codes "' data-arrive='")
    (add c.args.text.now c.push.new.self c.push_number.new.self (codes "<tr data-block='") (decimal c.args.id) c.in_ok-push.ensures
    (c.in_ok-push_number.ensures ∙ ap (λ n. c.push.new.self ++ decimal n) c.from.ensures)) c.in_ok-push-2.ensures)
    (c.in_ok-push-3.ensures ∙ ap (λ b. c.push-2.new.self ++ b) c.bytes.ensures.value)) c.in_ok-push-4.ensures)
    (c.in_ok-push-5.ensures ∙ ap (λ b. c.push-4.new.self ++ b) c.bytes-2.ensures.value)) last)
