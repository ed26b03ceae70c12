use Rattle.std.proofs.Common.{◌≡◌, ◌++◌, drop}
use Rattle.shunt_picture.specs.defs.Words.{each_from}
use Rattle.shunt_picture.specs.defs.PictureTexts.{loose_text}
use Rattle.shunt_picture.proofs.picture_texts.push_looses.Given as goal

abbrev pub invariant-loop-i : goal.invariant-loop-i
invariant-loop-i l = l.text ++ each_from (loose_text l.kinds l.room l.columns l.top) l.i (drop l.i l.looses) ≡ l.fn.text
    ++ each_from (loose_text l.kinds l.room l.columns l.top) 0 l.looses
