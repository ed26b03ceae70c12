use Rattle.std.proofs.Common.{◌≡◌, ◌++◌, drop}
use Rattle.std.specs.List.{flat_map}
use Rattle.shunt_page.specs.defs.RowTexts.{seat_item}
use Rattle.shunt_page.proofs.row_texts.push_seats.Given as goal

abbrev pub invariant-loop-row : goal.invariant-loop-row
invariant-loop-row l = l.text ++ flat_map seat_item (drop l.row-index l.seats) ≡ l.fn.text ++ flat_map seat_item l.seats
