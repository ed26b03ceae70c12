use Rattle.std.proofs.Common.{◌≡◌, ◌++◌, drop}
use Rattle.std.specs.List.{flat_map}
use Rattle.shunt_page.specs.defs.RowTexts.{already_row}
use Rattle.shunt_page.proofs.row_texts.push_already_rows.Given as goal

abbrev pub invariant-loop-row : goal.invariant-loop-row
invariant-loop-row l = l.text ++ flat_map already_row (drop l.row-index l.rows) ≡ l.fn.text ++ flat_map already_row l.rows
