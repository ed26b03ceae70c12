use Rattle.std.proofs.Common.{◌∙◌}
use Rattle.shunt_picture.specs.defs.PictureTexts.{kind_text}
use Rattle.shunt_picture.proofs.Drawn.{one_entry}
use Rattle.shunt_picture.proofs.picture_texts.push_kinds.Goals as goal

pub loop-i-preserved : goal.loop-i-preserved
loop-i-preserved c = one_entry (kind_text c.args.room c.args.columns) c.args.kinds.now c.loop-i.i c.index-kinds-i.result _ c.loop-i.text c.push_kind.new.text c.loop-i-test.true
    c.index-kinds-i.is c.in_ok-push_kind.ensures ∙ c.loop-i.invariant
