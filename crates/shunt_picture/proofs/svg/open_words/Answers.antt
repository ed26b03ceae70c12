use Rattle.std.proofs.Common.{◌++◌, codes}
use Rattle.shunt_picture.specs.defs.Svg.{attribute}
use Rattle.shunt_picture.proofs.Chained.{add}
use Rattle.shunt_picture.proofs.svg.open_words.Goals as goal
use Rattle.shunt_lists.proofs.Options.{on_ok}

pub returns : goal.returns
unfolding Rattle.shunt_picture.specs.defs.Svg.opened
returns c = on_ok c.push-4.result _ _ c.push-4.ensures (λ last. add c.args.text.now c.push_attribute-3.new.text c.push-4.new.self
    (codes "<text class='" ++ c.args.class.now ++ codes "'" ++ attribute (codes "x") c.args.x ++ attribute (codes "y") c.args.y ++ attribute (codes "textLength") c.args.width)
    (codes ">") (add c.args.text.now c.push_attribute-2.new.text c.push_attribute-3.new.text
    (codes "<text class='" ++ c.args.class.now ++ codes "'" ++ attribute (codes "x") c.args.x ++ attribute (codes "y") c.args.y) (attribute (codes "textLength") c.args.width)
    (add c.args.text.now c.push_attribute.new.text c.push_attribute-2.new.text (codes "<text class='" ++ c.args.class.now ++ codes "'" ++ attribute (codes "x") c.args.x)
    (attribute (codes "y") c.args.y) (add c.args.text.now c.push-3.new.self c.push_attribute.new.text (codes "<text class='" ++ c.args.class.now ++ codes "'")
    (attribute (codes "x") c.args.x) (add c.args.text.now c.push-2.new.self c.push-3.new.self (codes "<text class='" ++ c.args.class.now) (codes "'")
    (add c.args.text.now c.push.new.self c.push-2.new.self (codes "<text class='") (c.args.class.now) c.in_ok-push.ensures c.in_ok-push-2.ensures) c.in_ok-push-3.ensures)
    c.in_ok-push_attribute.ensures) c.in_ok-push_attribute-2.ensures) c.in_ok-push_attribute-3.ensures) last)
