use Rattle.std.proofs.Common.{◌++◌, codes, decimal, ap, ◌∙◌}
use Rattle.shunt_page.specs.defs.RowTexts.{order_class, order_train}
use Rattle.shunt_picture.proofs.Chained.{add}
use Rattle.shunt_page.proofs.row_texts.open_order.Goals as goal
use Rattle.shunt_lists.proofs.Options.{on_ok}

pub returns : goal.returns
unfolding Rattle.shunt_page.specs.defs.RowTexts.order_open
returns c = on_ok c.push-4.result _ _ c.push-4.ensures (λ last. add c.args.text.now c.push-3.new.self c.push-4.new.self
    (order_class c.args.row.now.order.enters ++ decimal c.args.row.now.order.id ++ order_train c.args.row.now.order.enters ++ c.args.row.now.train.name) (codes "'>")
    (add c.args.text.now c.push-2.new.self c.push-3.new.self (order_class c.args.row.now.order.enters ++ decimal c.args.row.now.order.id ++ order_train c.args.row.now.order.enters)
    (c.args.row.now.train.name) (add c.args.text.now c.push_number.new.self c.push-2.new.self (order_class c.args.row.now.order.enters ++ decimal c.args.row.now.order.id)
    (order_train c.args.row.now.order.enters) (add c.args.text.now c.push.new.self c.push_number.new.self (order_class c.args.row.now.order.enters)
    (decimal c.args.row.now.order.id) (c.in_ok-push.ensures ∙ ap (λ b. c.args.text.now ++ b) c.order_class.ensures)
    (c.in_ok-push_number.ensures ∙ ap (λ n. c.push.new.self ++ decimal n) c.from.ensures)) (c.in_ok-push-2.ensures ∙ ap (λ b. c.push_number.new.self ++ b) c.order_train.ensures))
    (c.in_ok-push-3.ensures ∙ ap (λ b. c.push-2.new.self ++ b) c.bytes.ensures.value)) last)
