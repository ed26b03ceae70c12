-- The records of a roster are plain, and state it.
use Rattle.std.proofs.Common.{◌≡◌, ℕ, Bool, true, not, List, [], ◌∷◌, ◌++◌, map, refl, sym, subst, ap, ◌∙◌, arith}
use Rattle.std.specs.Prelude.{Ok, Option, Some, codes}
use Rattle.std.specs.Option.{is_some, unwrap_or}
use Rattle.std.specs.Fmt.{decimal}
use Rattle.std.proofs.lemmas.List.{append-nil}
use Rattle.shunt_lists.specs.defs.Members.{In, AreDistinct}
use Rattle.shunt_lists.proofs.Members.{of_map}
use Rattle.shunt_base.specs.defs.Spelling.{decimal_of}
use Rattle.shunt_rows.specs.defs.Checks.{answer}
use Rattle.shunt_rows.specs.defs.Fields.{is_within, enters_of}
use Rattle.shunt_rows.specs.defs.Formats.{reading}
use Rattle.shunt_rows.specs.defs.Records.{records_of, text_of_row, text_of_rows, IsPlainRow, ArePlain, ReadsBack}
use Rattle.shunt_rows.specs.defs.Written.{Written, move_word}
use Rattle.shunt_rows.proofs.Again.{again}
use Rattle.shunt_rows.proofs.Answered.{holding}
use Rattle.shunt_rows.proofs.Named.{not_before, of_middle, fewer}
use Rattle.shunt_rows.proofs.Plain.{plain_number, plain_word, plain_map, plain_move, word_read}
use Rattle.shunt_rows.proofs.Sections.{section, all_read}
use Rattle.shunt_rows.proofs.Spelled.{number_read, number_again}
use Rattle.shunt_rows.proofs.Texts.{row_written, rows_written}
use Rattle.shunt_tracks.specs.declared.run.Event.{Event}
use Rattle.shunt_drivers.specs.declared.records.Duty.{Duty}
use Rattle.shunt_drivers.specs.defs.RosterFormat.{MoveName, name_of, named_by, is_one, move_named, has_duty, no_move, driver_in, move_in, duty_by, duty_of, roster_first, duties_of, roster_later, roster_format, IsSpelled, IsRoster}
use Rattle.shunt_drivers.specs.defs.RosterRows.{head_row, duty_row, rows_of, ReadsAsRoster}
use Rattle.shunt_drivers.proofs.MoveNames.{one_tells, tells_one, found_in, finds}

-- ---- plain records

pub plain_duty : (d : Duty) → IsSpelled d → IsPlainRow (duty_row d)
plain_duty d is =
    let last = is.last in
    (omega arith, (plain_word (codes "duty") refl refl, (plain_number d.driver (omega (arith, last)), (plain_move d.enters, (plain_number d.id is.id, tt)))))

pub plain_head : IsPlainRow head_row
plain_head = (omega arith, (plain_word (codes "roster") refl refl, (plain_number 1 (omega arith), tt)))

rows_plain : (moves : List Event) (duties : List Duty) → IsRoster moves duties → ArePlain (rows_of duties)
rows_plain moves duties f = (plain_head, plain_map IsSpelled duty_row duties plain_duty f.spelled)

-- ---- each record is read

-- the move that a duty names
abbrev Moved : List Event → Duty → Type 0
Moved moves d = (e : Event) × (move_named (named_by d) moves ≡ Some e) × (name_of e ≡ named_by d)

moved : (moves : List Event) (d : Duty) → In (named_by d) (map name_of moves) → Moved moves d
moved moves d i =
    let m = of_map name_of moves (named_by d) i in
    let f = finds (λ e. is_one (name_of e) (named_by d)) moves m.0 m.1 (tells_one (name_of m.0) (named_by d) (sym m.2)) in
    (f.0, f.1, one_tells (name_of f.0) (named_by d) (found_in (λ e. is_one (name_of e) (named_by d)) moves f.0 f.1).1)

abbrev duty_named : ℕ → MoveName → Duty
duty_named driver name = record { driver = driver; enters = name.0; id = name.1 }

duty_read : (moves : List Event) (duties : List Duty) → IsRoster moves duties → (n : ℕ) (xs : List Duty) (y : Duty) (zs : List Duty) → duties ≡ xs ++ y ∷ zs
    → answer n (roster_later moves xs (duty_row y)) ≡ Ok (xs ++ y ∷ [])
unfolding roster_later duties_of duty_of driver_in move_in is_within
duty_read moves duties f n xs y zs e =
    let is = of_middle IsSpelled duties xs zs y f.spelled e in
    let m = moved moves y (of_middle (λ d. In (named_by d) (map name_of moves)) duties xs zs y f.of_moves.each e) in
    let v = number_read 1 800 y.driver is.first is.last (omega arith) in
    let word = word_read y.enters in
    let id = number_again y.id is.id in
    let name : MoveName = (unwrap_or (enters_of (move_word y.enters)) true, unwrap_or (decimal_of (decimal y.id)) 0) in
    let same : name ≡ named_by y = ap (λ (o : Option Bool). let p : MoveName = (unwrap_or o true, unwrap_or (decimal_of (decimal y.id)) 0) in p) word
    ∙ ap (λ (o : Option ℕ). let p : MoveName = (y.enters, unwrap_or o 0) in p) id in
    let found = ap (λ k. move_named k moves) same ∙ m.1 in
    let apart : AreDistinct (map named_by (xs ++ y ∷ zs)) = subst (λ l. AreDistinct (map named_by l)) e f.of_moves.once in
    let new = not_before named_by (λ d. is_one (named_by d) (named_by y)) xs zs y (λ x t. one_tells (named_by x) (named_by y) t) apart in
    let repeats = ap (λ o. not (has_duty (name_of (unwrap_or o no_move)) xs)) found ∙ ap (λ k. not (has_duty k xs)) m.2 ∙ ap not new in
    let r = duties_of moves xs (duty_row y) in
    holding n r.checks r.value (refl, (fewer duties xs zs y 800 f.few e, (v.there, (v.range, (ap is_some word, (ap is_some id, (ap is_some found, (repeats, tt))))))))
    ∙ ap (λ k. Ok (xs ++ duty_by k (unwrap_or (move_named name moves) no_move) ∷ [])) v.value
    ∙ ap (λ o. Ok (xs ++ duty_by y.driver (unwrap_or o no_move) ∷ [])) found
    ∙ ap (λ k. Ok (xs ++ duty_named y.driver k ∷ [])) m.2

head_read : answer 1 (roster_first head_row) ≡ Ok []
unfolding roster_first is_within
head_read =
    let v = number_read 1 1 1 (omega arith) (omega arith) (omega arith) in
    let m = roster_first head_row in
    holding 1 m.checks m.value (refl, (refl, (v.there, (v.range, tt))))

-- the records of duties state them
pub duties_back : (moves : List Event) (duties : List Duty) → IsRoster moves duties → reading (roster_format moves) (rows_of duties) ≡ Ok duties
duties_back moves duties f =
    let format = roster_format moves in
    all_read format head_row (map duty_row duties) [] duties head_read (section format duty_row (λ l. l) duties (duty_read moves duties f) 2 [] duties refl) refl

-- ---- their text is read back

pub back_from : (moves : List Event) (duties : List Duty) → IsRoster moves duties → (text bytes : List ℕ) → text ≡ text_of_rows (rows_of duties) → ReadsBack text bytes
    → ReadsAsRoster moves duties bytes
back_from moves duties f text bytes e back =
    let rows = back (rows_of duties) (rows_plain moves duties f) e in
    record { rows = rows; value = ap (reading (roster_format moves)) rows ∙ duties_back moves duties f }

pub text_back : (moves : List Event) (duties : List Duty) → IsRoster moves duties → ReadsAsRoster moves duties (text_of_rows (rows_of duties))
text_back moves duties f = back_from moves duties f (text_of_rows (rows_of duties)) (text_of_rows (rows_of duties)) refl (λ rows plain e. ap records_of e ∙ again rows plain)

abbrev wrote : List ℕ → Written
wrote text = record { text = text; row = [] }

-- all records of a roster, one part after the other
pub roster_written : (duties seen : List Duty) (w a b : Written) → seen ≡ duties → w ≡ record { text = []; row = [] }
    → a ≡ record { text = w.text ++ text_of_row head_row; row = [] }
    → b ≡ record { text = a.text ++ text_of_rows (map duty_row seen); row = [] } → b.text ≡ text_of_rows (rows_of duties)
roster_written duties seen w a b same h0 h1 h2 =
    let all = text_of_rows (rows_of duties) in
    let i2 = h2 ∙ ap (λ l. wrote (a.text ++ text_of_rows (map duty_row l))) same in
    sym (append-nil b.text)
    ∙ rows_written a b (map duty_row duties) [] all i2
    (ap (λ l. a.text ++ text_of_rows l) (append-nil (map duty_row duties))
    ∙ row_written w a head_row (map duty_row duties) all h1 (ap (λ (x : Written). x.text ++ all) h0))
