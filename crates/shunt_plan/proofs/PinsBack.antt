-- The text of pins reads back as them, and isn't long.
use Rattle.std.proofs.Common.{◌≡◌, ℕ, ◌<◌, ◌≤◌, List, [], ◌∷◌, ◌++◌, length, length-append, map, refl, ap, subst, sym, ◌∙◌, arith}
use Rattle.std.specs.Prelude.{Ok, codes}
use Rattle.std.proofs.lemmas.Fmt.{length-decimal-le}
use Rattle.std.proofs.lemmas.List.Concat.{flat_map-cons}
use Rattle.shunt_rows.specs.defs.Records.{records_of, text_of_row, text_of_rows, IsPlainRow, ArePlain, ReadsBack}
use Rattle.shunt_rows.specs.defs.Checks.{answer}
use Rattle.shunt_rows.specs.defs.Fields.{is_within}
use Rattle.shunt_rows.specs.defs.Formats.{IsReadByEach, reading}
use Rattle.shunt_rows.proofs.Again.{again}
use Rattle.shunt_rows.proofs.Answered.{holding}
use Rattle.shunt_rows.proofs.Named.{of_middle}
use Rattle.shunt_rows.proofs.Plain.{plain_number, plain_word, plain_map}
use Rattle.shunt_rows.proofs.Sections.{all_read, section}
use Rattle.shunt_rows.proofs.Spelled.{number_read}
use Rattle.shunt_rows.proofs.Widths.{row_width, rows_width}
use Rattle.shunt_instance.specs.defs.Instance.{Night, IsInstance, IsOrderedNight}
use Rattle.shunt_instance.proofs.Orders.{opened}
use Rattle.shunt_blocks.specs.declared.records.Block.{Block}
use Rattle.shunt_blocks.specs.defs.Shapes.{IsInRange}
use Rattle.shunt_blocks.specs.defs.Lists.{AreInRange}
use Rattle.shunt_plan.specs.defs.PinsFormat.{pins_first, pins_later, pins_format}
use Rattle.shunt_plan.specs.defs.PlanRows.{block_row}
use Rattle.shunt_plan.specs.defs.PinsRows.{pins_head, rows_of_pins, ReadsAsPins}
use Rattle.shunt_plan.proofs.Parts.{one_more}
use Rattle.shunt_plan.proofs.Plain.{plain_block}
use Rattle.shunt_plan.proofs.Lengths.{block_short}
use Rattle.shunt_plan.proofs.RoundTrip.{block_read, id_new}

-- ---- read again

pins_read : (night : Night) → IsOrderedNight night → (all : List Block) → AreInRange night all → IsReadByEach (pins_format night) (block_row night) (λ pins. pins) all
unfolding pins_later
pins_read night h all are n xs y zs e =
    let inside = subst (AreInRange night) e are in
    let few = inside.few in
    let room : length xs < 400 = omega (arith, few, length-append xs (y ∷ zs)) in
    one_more n night xs (xs ++ y ∷ []) (block_row night y) y (block_read n night xs y h room (id_new xs zs y inside.ids) (of_middle (IsInRange night) all xs zs y are.each e)) refl

pins_head_read : answer 1 (pins_first pins_head) ≡ Ok []
unfolding pins_first is_within
pins_head_read =
    let v = number_read 1 1 1 (omega arith) (omega arith) (omega arith) in
    let m = pins_first pins_head in
    holding 1 m.checks m.value (refl, (refl, (v.there, (v.range, tt))))

pins_again : (night : Night) → IsOrderedNight night → (all : List Block) → AreInRange night all → reading (pins_format night) (rows_of_pins night all) ≡ Ok all
pins_again night h all are =
    let g = pins_format night in
    all_read g pins_head (map (block_row night) all) [] all pins_head_read (section g (block_row night) (λ pins. pins) all (pins_read night h all are) 2 [] all refl) refl

-- the records of pins state them
pub pins_back : (night : Night) (all : List Block) → IsInstance night → AreInRange night all → reading (pins_format night) (rows_of_pins night all) ≡ Ok all
pins_back night all is are = pins_again night (opened night is) all are

plain_pins_head : IsPlainRow pins_head
plain_pins_head = (omega arith, (plain_word (codes "pins") refl refl, (plain_number 1 (omega arith), tt)))

pins_plain : (night : Night) → IsOrderedNight night → (all : List Block) → AreInRange night all → ArePlain (rows_of_pins night all)
pins_plain night h all are = (plain_pins_head, plain_map (IsInRange night) (block_row night) all (plain_block night h) are.each)

-- their text is read back
pub pins_back_from : (night : Night) → IsInstance night → (all : List Block) → AreInRange night all → (text bytes : List ℕ) → text ≡ text_of_rows (rows_of_pins night all)
    → ReadsBack text bytes → ReadsAsPins night all bytes
pins_back_from night is all are text bytes e back =
    let h = opened night is in
    let rows = back (rows_of_pins night all) (pins_plain night h all are) e in
    record { rows = rows; value = ap (reading (pins_format night)) rows ∙ pins_again night h all are }

pub pins_text_back : (night : Night) (all : List Block) → IsInstance night → AreInRange night all → ReadsAsPins night all (text_of_rows (rows_of_pins night all))
pins_text_back night all is are = pins_back_from night is all are (text_of_rows (rows_of_pins night all)) (text_of_rows (rows_of_pins night all)) refl
    (λ rows plain e. ap records_of e ∙ again rows plain)

-- ---- how long it is

-- the text has at most 32,007 bytes
pub pins_short : (night : Night) (all : List Block) → IsInstance night → AreInRange night all → length (text_of_rows (rows_of_pins night all)) ≤ 32007
pins_short night all is are =
    let h = opened night is in
    let few = are.few in
    let rest = rows_width (IsInRange night) (block_row night) 80 all (block_short night h) are.each in
    let head = row_width pins_head plain_pins_head in
    let one = length-decimal-le 1 1 (omega arith) (omega arith) (omega arith) in
    omega (
      arith,
      few,
      rest,
      head,
      one,
      ap length (flat_map-cons text_of_row pins_head (map (block_row night) all)),
      length-append (text_of_row pins_head) (text_of_rows (map (block_row night) all)),
    )

pub pins_short_from : (night : Night) → IsInstance night → (all : List Block) → AreInRange night all → (text bytes : List ℕ) → text ≡ text_of_rows (rows_of_pins night all)
    → bytes ≡ text → length bytes ≤ 32007
pins_short_from night is all are text bytes e same = subst (λ (t : List ℕ). length t ≤ 32007) (sym (same ∙ e)) (pins_short night all is are)
