-- How long the text of a roster is.
use Rattle.std.proofs.Common.{◌≡◌, ℕ, ◌≤◌, List, length, length-append, map, sym, subst, ap, ◌∙◌, arith}
use Rattle.std.proofs.lemmas.Fmt.{length-decimal-le}
use Rattle.std.proofs.lemmas.List.Concat.{flat_map-cons}
use Rattle.shunt_rows.specs.defs.Records.{text_of_row, text_of_rows}
use Rattle.shunt_rows.proofs.Widths.{row_width, rows_width}
use Rattle.shunt_rows.proofs.Plain.{word_short}
use Rattle.shunt_tracks.specs.declared.run.Event.{Event}
use Rattle.shunt_drivers.specs.declared.records.Duty.{Duty}
use Rattle.shunt_drivers.specs.defs.RosterFormat.{IsSpelled, IsRoster}
use Rattle.shunt_drivers.specs.defs.RosterRows.{head_row, duty_row, rows_of}
use Rattle.shunt_drivers.proofs.RoundTrip.{plain_head, plain_duty}

duty_short : (d : Duty) → IsSpelled d → length (text_of_row (duty_row d)) ≤ 34
duty_short d is =
    let w = row_width (duty_row d) (plain_duty d is) in
    let last = is.last in
    let small = is.id in
    let driver = length-decimal-le 3 d.driver (omega arith) (omega (arith, last)) (omega (arith, last)) in
    let id = length-decimal-le 18 d.id (omega arith) (omega (arith, small)) (omega (arith, small)) in
    omega (arith, w, driver, word_short d.enters, id)

head_short : length (text_of_row head_row) ≤ 9
head_short =
    let w = row_width head_row plain_head in
    let version = length-decimal-le 1 1 (omega arith) (omega arith) (omega arith) in
    omega (arith, w, version)

pub roster_short : (moves : List Event) (duties : List Duty) → IsRoster moves duties → length (text_of_rows (rows_of duties)) ≤ 27209
roster_short moves duties is =
    let few = is.few in
    let all = rows_width IsSpelled duty_row 34 duties duty_short is.spelled in
    let whole = ap length (flat_map-cons text_of_row head_row (map duty_row duties)) in
    omega (arith, few, all, head_short, whole, length-append (text_of_row head_row) (text_of_rows (map duty_row duties)))

pub short_from : (moves : List Event) (duties : List Duty) → IsRoster moves duties → (text bytes : List ℕ) → text ≡ text_of_rows (rows_of duties) → bytes ≡ text
    → length bytes ≤ 27209
short_from moves duties is text bytes e same = subst (λ (t : List ℕ). length t ≤ 27209) (sym (same ∙ e)) (roster_short moves duties is)
