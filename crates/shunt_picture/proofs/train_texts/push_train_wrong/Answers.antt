use Rattle.std.proofs.Common.{◌++◌, codes}
use Rattle.shunt_picture.specs.defs.PictureTexts.{wrong_line}
use Rattle.shunt_picture.proofs.Chained.{add}
use Rattle.shunt_picture.proofs.train_texts.push_train_wrong.Goals as goal
use Rattle.shunt_lists.proofs.Options.{on_ok}

pub returns : goal.returns
unfolding Rattle.shunt_picture.specs.defs.PictureTexts.train_wrong
returns c = on_ok c.push.result _ _ c.push.ensures (λ last. add c.args.text.now c.push_wrong_line-2.new.text c.push.new.self
    (wrong_line (codes "\nin no block") c.args.bare.now ++ wrong_line (codes "\nin two blocks") c.args.twice.now) (codes "</title>\n")
    (add c.args.text.now c.push_wrong_line.new.text c.push_wrong_line-2.new.text (wrong_line (codes "\nin no block") c.args.bare.now)
    (wrong_line (codes "\nin two blocks") c.args.twice.now) c.in_ok-push_wrong_line.ensures c.in_ok-push_wrong_line-2.ensures) last)
