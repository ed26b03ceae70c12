-- How long the text of plain rows is.
use Rattle.std.proofs.Common.{◌≡◌, ℕ, suc, ◌*◌, ◌<◌, ◌≤◌, false, cond, List, [], ◌∷◌, ◌++◌, length, length-append, map, refl, ap, ◌∙◌, arith}
use Rattle.std.specs.Prelude.{All, ◌==◌}
use Rattle.std.specs.List.{AllByRecursion}
use Rattle.std.proofs.lemmas.Bool.Decides.{nat_tests}
use Rattle.std.proofs.lemmas.List.Concat.{flat_map-cons}
use Rattle.csv.specs.Writing.{field_text, fields_text, default_writer, is_blank}
use Rattle.shunt_rows.specs.defs.Records.{IsPlainField, IsPlainRow, text_of_row, text_of_rows, width}
use Rattle.shunt_rows.proofs.Again.{field_is}
use Rattle.std.proofs.lemmas.List.{append-nil}

fields_width : (fields : List (List ℕ)) → AllByRecursion IsPlainField fields → length (fields_text default_writer fields) ≡ width fields
unfolding fields_text
fields_width [] all = refl
fields_width (field ∷ fields) all =
    let more = fields_width fields all.1 in
    let here = ap length (field_is field all.0.1) in
    omega (arith, more, here, length-append (field_text default_writer field) (fields_text default_writer fields))

not_empty : (n : ℕ) → 0 < n → (n == 0) ≡ false
not_empty n lt = grind (arith, nat_tests)

some_bytes : (row : List (List ℕ)) → IsPlainRow row → is_blank default_writer row ≡ false
unfolding is_blank
some_bytes [] all = absurd (let lt = all.0 in omega arith)
some_bytes (field ∷ []) all = ap (λ t. length t == 0) (field_is field all.1.0.1) ∙ not_empty (length field) all.1.0.0
some_bytes (field ∷ next ∷ fields) all = refl

-- a record takes its fields, what parts them, and the end of its line
pub row_width : (row : List (List ℕ)) → IsPlainRow row → length (text_of_row row) ≡ width row
row_width [] all = absurd (let lt = all.0 in omega arith)
row_width (field ∷ fields) all =
    let more = fields_width fields all.1.1 in
    let here = ap length (field_is field all.1.0.1) in
    let body = field_text default_writer field ++ fields_text default_writer fields in
    let end : text_of_row (field ∷ fields) ≡ body ++ (10 ∷ []) = ap (λ b. body ++ (cond b (34 ∷ 34 ∷ []) [] ++ (10 ∷ []))) (some_bytes (field ∷ fields) all) in
    omega (arith, more, here, ap length end, length-append body (10 ∷ []), length-append (field_text default_writer field) (fields_text default_writer fields))

-- each record of a list is at most so long
pub rows_width : {X : Type 0} (P : X → Type 0) (row : X → List (List ℕ)) (most : ℕ) (xs : List X) → ((x : X) → P x → length (text_of_row (row x)) ≤ most) → All P xs
    → length (text_of_rows (map row xs)) ≤ most * length xs
rows_width P row most [] h all = omega arith
rows_width P row most (x ∷ xs) h all =
    let rest = rows_width P row most xs h (λ k d lt. all (suc k) d (omega arith)) in
    let here = h x (all 0 x (omega arith)) in
    let split = ap length (flat_map-cons text_of_row (row x) (map row xs)) in
    let sum = length-append (text_of_row (row x)) (text_of_rows (map row xs)) in
    omega (arith, rest, here, split, sum)

pub one_text : (row : List (List ℕ)) → text_of_rows (row ∷ []) ≡ text_of_row row
one_text row = flat_map-cons text_of_row row [] ∙ append-nil (text_of_row row)
