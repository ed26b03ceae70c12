-- Rows of plain fields are read back from their text.
use Rattle.std.proofs.Common.{◌≡◌, ◌≢◌, ℕ, ◌<◌, false, cond, List, [], ◌∷◌, ◌++◌, length, refl, sym, ap, ◌∙◌, arith, None, IsTrue}
use Rattle.std.proofs.lemmas.Bool.{and_left, ne_eqb, or_from}
use Rattle.std.proofs.lemmas.Bool.Decides.{nat_tests}
use Rattle.std.proofs.lemmas.List.Concat.{flat_map-cons}
use Rattle.std.specs.List.{AllByRecursion, list_any}
use Rattle.csv.specs.Machine.{next_record}
use Rattle.csv.specs.Reading.{Reached, records, default_config, strip_bom, is_bom}
use Rattle.csv.specs.Writing.{row_text, field_text, fields_text, default_writer, read_back, needs_byte, quoted, is_blank}
use Rattle.csv.specs.declared.parser.State.TheVariants as st
use Rattle.csv.proofs.RoundTrip.{read-write}
use Rattle.shunt_rows.specs.defs.Records.{is_plain, ArePlain, text_of_rows, records_of}
use Rattle.shunt_rows.proofs.Whole.{whole}

same_row : (row : List (List ℕ)) → 0 < length row → read_back row ≡ row
same_row [] lt = absurd (omega arith)
same_row (f ∷ row) lt = refl

reached : (rows : List (List (List ℕ))) → ArePlain rows → Reached default_config st.StartRecord (text_of_rows rows) rows st.StartRecord []
unfolding Reached
reached [] all = (refl, refl)
reached (row ∷ rows) all =
    let text : text_of_rows (row ∷ rows) ≡ row_text default_writer row ++ text_of_rows rows = flat_map-cons (row_text default_writer) row rows in (
      (read_back row, st.StartRecord, text_of_rows rows),
      ap (next_record default_config st.StartRecord [] []) text ∙ read-write row (text_of_rows rows),
      sym (same_row row all.0.0),
      reached rows all.1,
    )

none_left : next_record default_config st.StartRecord [] [] [] ≡ None
unfolding next_record
none_left = refl

marked : (a b c : ℕ) → a ≢ 239 → is_bom a b c ≡ false
marked a b c ne = and_left _ _ (and_left _ _ (ne_eqb a 239 ne))

no_mark : (xs : List ℕ) → ((b : ℕ) (rest : List ℕ) → xs ≡ b ∷ rest → b ≢ 239) → strip_bom xs ≡ xs
unfolding strip_bom
no_mark [] h = refl
no_mark (a ∷ []) h = refl
no_mark (a ∷ b ∷ []) h = refl
no_mark (a ∷ b ∷ c ∷ rest) h = ap (λ t. cond t rest (a ∷ b ∷ c ∷ rest)) (marked a b c (h a (b ∷ c ∷ rest) refl))

plain_byte : (b : ℕ) → IsTrue (is_plain b) → needs_byte default_writer b ≡ false
plain_byte b is = grind (arith, nat_tests)

plain_small : (b : ℕ) → IsTrue (is_plain b) → b ≢ 239
plain_small b is = grind (arith, nat_tests)

plain_field : (field : List ℕ) → AllByRecursion (λ b. IsTrue (is_plain b)) field → list_any (needs_byte default_writer) field ≡ false
plain_field [] all = refl
plain_field (b ∷ field) all = or_from _ _ (plain_byte b all.0) (plain_field field all.1)

pub field_is : (field : List ℕ) → AllByRecursion (λ b. IsTrue (is_plain b)) field → field_text default_writer field ≡ field
field_is field all = ap (λ t. cond t (quoted default_writer field) field) (plain_field field all)

first_byte : (x : ℕ) (field : List ℕ) (fields : List (List ℕ)) → AllByRecursion (λ b. IsTrue (is_plain b)) (x ∷ field)
    → (rest : List ℕ) × (row_text default_writer ((x ∷ field) ∷ fields) ≡ x ∷ rest)
first_byte x field fields all =
    let tail = cond (is_blank default_writer ((x ∷ field) ∷ fields)) (34 ∷ 34 ∷ []) [] ++ (10 ∷ []) in
    ((field ++ fields_text default_writer fields) ++ tail, ap (λ t. (t ++ fields_text default_writer fields) ++ tail) (field_is (x ∷ field) all))

starts : (rows : List (List (List ℕ))) → ArePlain rows → (b : ℕ) (rest : List ℕ) → text_of_rows rows ≡ b ∷ rest → b ≢ 239
starts [] all b rest e = absurd (let f : ◌≡◌ {A = List ℕ} [] (b ∷ rest) = e in cc)
starts ([] ∷ rows) all b rest e = absurd (let lt = all.0.0 in omega arith)
starts (([] ∷ fields) ∷ rows) all b rest e = absurd (let lt = all.0.1.0.0 in omega arith)
starts (((x ∷ field) ∷ fields) ∷ rows) all b rest e =
    let one = first_byte x field fields all.0.1.0.1 in
    let text : b ∷ rest ≡ x ∷ (one.0 ++ text_of_rows rows) = sym e ∙ flat_map-cons (row_text default_writer) ((x ∷ field) ∷ fields) rows
    ∙ ap (λ (t : List ℕ). t ++ text_of_rows rows) one.1 in
    let same : b ≡ x = cc in
    λ f. plain_small x all.0.1.0.1.0 (sym same ∙ f)

pub again : (rows : List (List (List ℕ))) → ArePlain rows → records_of (text_of_rows rows) ≡ rows
again rows all =
    ap (records default_config) (no_mark (text_of_rows rows) (starts rows all))
    ∙ sym (whole (text_of_rows rows) rows (st.StartRecord, [], reached rows all, none_left))
