use Rattle.std.proofs.Common.{◌++◌, codes, decimal}
use Rattle.shunt_picture.proofs.Chained.{add}
use Rattle.shunt_picture.proofs.picture_texts.push_seen.Goals as goal
use Rattle.shunt_lists.proofs.Options.{on_ok}

pub returns : goal.returns
unfolding Rattle.shunt_picture.specs.defs.PictureTexts.seen_text
returns c = on_ok c.push-3.result _ _ c.push-3.ensures (λ last. add c.args.text.now c.push_number-2.new.self c.push-3.new.self
    (codes " viewBox='0 0 " ++ decimal c.args.width ++ codes " " ++ decimal c.args.height) (codes "'")
    (add c.args.text.now c.push-2.new.self c.push_number-2.new.self (codes " viewBox='0 0 " ++ decimal c.args.width ++ codes " ") (decimal c.args.height)
    (add c.args.text.now c.push_number.new.self c.push-2.new.self (codes " viewBox='0 0 " ++ decimal c.args.width) (codes " ")
    (add c.args.text.now c.push.new.self c.push_number.new.self (codes " viewBox='0 0 ") (decimal c.args.width) c.in_ok-push.ensures c.in_ok-push_number.ensures)
    c.in_ok-push-2.ensures) c.in_ok-push_number-2.ensures) last)
