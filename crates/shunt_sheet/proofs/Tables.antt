-- The tables of the sheet file stand in order.
use Rattle.std.proofs.Common.{ℕ, List, refl}
use Rattle.std.specs.Prelude.{codes}
use Rattle.shunt_rows.specs.defs.Fields.{is_word}
use Rattle.shunt_rows.specs.defs.FirstFault.{HasChecksInOrder, Tells}
use Rattle.shunt_rows.proofs.InOrder.{in_if, no_word_up}
use Rattle.shunt_rows.proofs.Readings.{tells}
use Rattle.shunt_instance.specs.declared.records.Station.{Station}
use Rattle.shunt_sheet.specs.declared.records.Order.{Order}
use Rattle.shunt_sheet.specs.defs.SheetFormat.{start_in, move_in, place_in, order_in, more_of, sheet_first, sheet_later, sheet_format}

first_up : (row : List (List ℕ)) → HasChecksInOrder (sheet_first row)
unfolding sheet_first
first_up row = record { up = refl }

more_up : (s : Station) (orders : List Order) (row : List (List ℕ)) → HasChecksInOrder (more_of s orders row)
unfolding more_of order_in start_in move_in place_in
more_up s orders row = record { up = refl }

later_up : (s : Station) (orders : List Order) (row : List (List ℕ)) → HasChecksInOrder (sheet_later s orders row)
unfolding sheet_later
later_up s orders row = in_if (is_word row (codes "order")) (more_up s orders row) (no_word_up orders)

pub sheets_tell : (s : Station) (rows : List (List (List ℕ))) → Tells (sheet_format s) rows
sheets_tell s rows = tells (sheet_format s) (record { first = first_up; later = later_up s }) rows
