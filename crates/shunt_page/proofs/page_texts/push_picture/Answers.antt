use Rattle.std.proofs.Common.{◌++◌, codes, ap, ◌∙◌}
use Rattle.shunt_picture.specs.defs.PictureTexts.{svg_of}
use Rattle.shunt_page.specs.defs.PageTexts.{picture_start}
use Rattle.shunt_picture.proofs.Chained.{add}
use Rattle.shunt_page.proofs.page_texts.push_picture.Goals as goal
use Rattle.shunt_lists.proofs.Options.{on_ok}

pub returns : goal.returns
unfolding Rattle.shunt_page.specs.defs.PageTexts.picture_part
returns c = on_ok c.push-2.result _ _ c.push-2.ensures (λ last. add c.args.text.now c.push.new.self c.push-2.new.self (picture_start ++ svg_of c.args.page.now.picture)
    (codes "</div>\n</section>\n") (add c.args.text.now c.push_picture_start.new.text c.push.new.self picture_start
    (svg_of c.args.page.now.picture) c.in_ok-push_picture_start.ensures (c.in_ok-push.ensures
    ∙ ap (λ b. c.push_picture_start.new.text ++ b) (c.deref.ensures.value ∙ c.in_ok-shown.ensures))) last)
