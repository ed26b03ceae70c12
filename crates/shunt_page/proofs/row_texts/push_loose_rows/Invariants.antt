use Rattle.std.proofs.Common.{◌≡◌, ◌++◌, drop}
use Rattle.std.specs.List.{flat_map}
use Rattle.shunt_page.specs.defs.RowTexts.{loose_row}
use Rattle.shunt_page.proofs.row_texts.push_loose_rows.Given as goal

abbrev pub invariant-loop-row : goal.invariant-loop-row
invariant-loop-row l = l.text ++ flat_map loose_row (drop l.row-index l.looses) ≡ l.fn.text ++ flat_map loose_row l.looses
