use Rattle.std.proofs.Common.{◌≡◌, ◌++◌, drop}
use Rattle.shunt_picture.specs.defs.Words.{each_from}
use Rattle.shunt_picture.specs.defs.PictureTexts.{kind_text}
use Rattle.shunt_picture.proofs.picture_texts.push_kinds.Given as goal

abbrev pub invariant-loop-i : goal.invariant-loop-i
invariant-loop-i l = l.text ++ each_from (kind_text l.room l.columns) l.i (drop l.i l.kinds) ≡ l.fn.text ++ each_from (kind_text l.room l.columns) 0 l.kinds
