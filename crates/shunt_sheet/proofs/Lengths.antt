-- How long the text of a sheet is.
use Rattle.std.proofs.Common.{◌≡◌, ℕ, ◌≤◌, List, length, length-append, map, sym, subst, ap, ◌∙◌, arith}
use Rattle.std.proofs.lemmas.Fmt.{length-decimal-le}
use Rattle.std.proofs.lemmas.List.Concat.{flat_map-cons}
use Rattle.shunt_rows.specs.defs.Records.{text_of_row, text_of_rows}
use Rattle.shunt_rows.proofs.Plain.{side_short, word_short}
use Rattle.shunt_rows.proofs.Widths.{row_width, rows_width}
use Rattle.shunt_instance.specs.declared.records.Station.{Station}
use Rattle.shunt_instance.specs.defs.Wellformed.{IsStation}
use Rattle.shunt_sheet.specs.declared.records.Order.{Order}
use Rattle.shunt_sheet.specs.defs.SheetFormat.{AreOrders}
use Rattle.shunt_sheet.specs.defs.SheetRows.{head_row, order_row, rows_of}
use Rattle.shunt_sheet.proofs.RoundTrip.{IsSpelled, all_spelled, track_named, plain_head, plain_order}

order_short : (s : Station) → IsStation s → (o : Order) → IsSpelled s o → length (text_of_row (order_row s o)) ≤ 51
order_short s f o is =
    let w = row_width (order_row s o) (plain_order s f o is) in
    let small = is.id in
    let long = is.long in
    let id = length-decimal-le 7 o.id (omega arith) (omega (arith, small)) (omega (arith, small)) in
    let size = length-decimal-le 5 o.length (omega arith) (omega (arith, long)) (omega (arith, long)) in
    let name = (track_named s o.track.0 f is.track).1 in
    omega (arith, w, word_short o.enters, id, size, name, side_short o.side)

head_short : length (text_of_row head_row) ≤ 8
head_short =
    let w = row_width head_row plain_head in
    let version = length-decimal-le 1 1 (omega arith) (omega arith) (omega arith) in
    omega (arith, w, version)

pub sheet_short : (s : Station) (orders : List Order) → IsStation s → AreOrders s orders → length (text_of_rows (rows_of s orders)) ≤ 40808
sheet_short s orders f is =
    let few = is.few in
    let all = rows_width (IsSpelled s) (order_row s) 51 orders (order_short s f) (all_spelled s orders is) in
    let whole = ap length (flat_map-cons text_of_row head_row (map (order_row s) orders)) in
    omega (arith, few, all, head_short, whole, length-append (text_of_row head_row) (text_of_rows (map (order_row s) orders)))

pub short_from : (s : Station) (orders : List Order) → IsStation s → AreOrders s orders → (text bytes : List ℕ) → text ≡ text_of_rows (rows_of s orders) → bytes ≡ text
    → length bytes ≤ 40808
short_from s orders f is text bytes e same = subst (λ (t : List ℕ). length t ≤ 40808) (sym (same ∙ e)) (sheet_short s orders f is)
