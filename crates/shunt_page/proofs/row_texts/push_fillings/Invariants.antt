use Rattle.std.proofs.Common.{◌≡◌, ◌++◌, drop}
use Rattle.shunt_picture.specs.defs.Words.{each_from}
use Rattle.shunt_page.specs.defs.RowTexts.{filling_item}
use Rattle.shunt_page.proofs.row_texts.push_fillings.Given as goal

abbrev pub invariant-loop-i : goal.invariant-loop-i
invariant-loop-i l = l.text ++ each_from filling_item l.i (drop l.i l.fillings) ≡ l.fn.text ++ each_from filling_item 0 l.fillings
