use Rattle.std.proofs.Common.{◌∙◌}
use Rattle.shunt_picture.specs.defs.PictureTexts.{loose_text}
use Rattle.shunt_picture.proofs.Drawn.{one_entry}
use Rattle.shunt_picture.proofs.picture_texts.push_looses.Goals as goal

pub loop-i-preserved : goal.loop-i-preserved
loop-i-preserved c = one_entry (loose_text c.args.kinds.now c.args.room c.args.columns c.args.top) c.args.looses.now c.loop-i.i c.index-looses-i.result _ c.loop-i.text
    c.push_loose.new.text c.loop-i-test.true c.index-looses-i.is c.in_ok-push_loose.ensures ∙ c.loop-i.invariant
