-- A writer of rows of any lengths writes each row as the default writer does.
use Rattle.std.proofs.Common.{◌≡◌, ◌≢◌, ℕ, Some, Vec, false, subst, sym, List, [], ◌∷◌, ◌++◌, ◌==◌, length, cond, true, refl, ap, ◌∙◌}
use Rattle.std.specs.List.{list_any}
use Rattle.std.specs.Io.KnownBytes.{Appends}
use Rattle.csv.specs.Writing.{row_text, by_style, text_written, writer_setup, fields_written, has_written, fields_text, field_text, escaped, is_blank, needs_byte, default_writer, with_flexible}
use Rattle.csv.specs.declared.writer.Writer.{Writer}
use Rattle.csv.specs.declared.writer.WriterBuilder.{WriterBuilder}
use Rattle.csv.specs.declared.writer.QuoteStyle.TheVariants as style
use Rattle.shunt_rows.specs.defs.Records.{text_of_row}
use Rattle.shunt_rows.specs.defs.Rows.{IsAtRow, rows_text}

abbrev flexible : WriterBuilder
flexible = with_flexible default_writer true

same_escaped : (field : List ℕ) → escaped flexible field ≡ escaped default_writer field
unfolding escaped
same_escaped [] = refl
same_escaped (b ∷ rest) = ap (λ t. cond (b == 34) (34 ∷ b ∷ t) (b ∷ t)) (same_escaped rest)

same_field : (field : List ℕ) → field_text flexible field ≡ field_text default_writer field
same_field field = ap (λ t. cond (list_any (needs_byte default_writer) field) (34 ∷ (t ++ (34 ∷ []))) field) (same_escaped field)

same_fields : (row : List (List ℕ)) → fields_text flexible row ≡ fields_text default_writer row
unfolding fields_text
same_fields [] = refl
same_fields (field ∷ rest) =
    ap (λ t. 44 ∷ (t ++ fields_text flexible rest)) (same_field field)
    ∙ ap (λ t. 44 ∷ (field_text default_writer field ++ t)) (same_fields rest)

same_blank : (row : List (List ℕ)) → is_blank flexible row ≡ is_blank default_writer row
unfolding is_blank
same_blank [] = refl
same_blank (field ∷ []) = ap (λ t. length t == 0) (same_field field)
same_blank (field ∷ next ∷ rest) = refl

same_row : (row : List (List ℕ)) → row_text flexible row ≡ text_of_row row
unfolding is_blank
same_row [] = refl
same_row (field ∷ rest) =
    ap (λ t. (t ++ fields_text flexible rest) ++ (cond (is_blank flexible (field ∷ rest)) (34 ∷ 34 ∷ []) [] ++ (10 ∷ []))) (same_field field)
    ∙ ap (λ t. (field_text default_writer field ++ t) ++ (cond (is_blank flexible (field ∷ rest)) (34 ∷ 34 ∷ []) [] ++ (10 ∷ []))) (same_fields rest)
    ∙ ap (λ t. (field_text default_writer field ++ fields_text default_writer rest) ++ (cond t (34 ∷ 34 ∷ []) [] ++ (10 ∷ []))) (same_blank (field ∷ rest))

necessary : style.Necessary ≢ style.NonNumeric
necessary e = absurd (let quotes : false ≡ true = ap (λ s. by_style s false) e in cc)

pub one_more : {A : Type 0} (old new : Writer (Vec ℕ A)) (row : List (List ℕ)) → IsAtRow old
    → (fields_written old ≡ 0 → has_written old ≡ false → (writer_setup old).style ≢ style.NonNumeric
    → Appends (text_written (λ v. Some v.items) old) (text_written (λ v. Some v.items) new) (row_text (writer_setup old) row)) → rows_text new ≡ rows_text old ++ text_of_row row
one_more old new row at appends =
    appends at.none at.nothing (subst (λ c. c.style ≢ style.NonNumeric) (sym at.setup) necessary)
    ∙ ap (λ t. rows_text old ++ t) (ap (λ c. row_text c row) at.setup ∙ same_row row)
