-- The text of lists of records, and how long it is.
use Rattle.std.proofs.Common.{◌≡◌, ℕ, ◌+◌, ◌≤◌, List, [], ◌∷◌, ◌++◌, length, length-append, sym, ap, ◌∙◌, arith}
use Rattle.std.specs.Prelude.{Result, Ok, Err, IfOk}
use Rattle.std.proofs.lemmas.List.{append_assoc}
use Rattle.std.proofs.lemmas.List.Concat.{flat_map-cons, flat_map-append}
use Rattle.shunt_rows.specs.defs.Records.{text_of_row, text_of_rows}
use Rattle.shunt_rows.specs.defs.Written.{Written}

-- the text of two lists of records
pub texts_join : (rows more : List (List (List ℕ))) → text_of_rows (rows ++ more) ≡ text_of_rows rows ++ text_of_rows more
texts_join rows more = flat_map-append text_of_row rows more

-- so long at most where its parts are
pub join_short : (rows more : List (List (List ℕ))) (a b : ℕ) → length (text_of_rows rows) ≤ a → length (text_of_rows more) ≤ b → length (text_of_rows (rows ++ more)) ≤ a + b
join_short rows more a b p q = omega (arith, p, q, ap length (texts_join rows more), length-append (text_of_rows rows) (text_of_rows more))

pub one_short : (row : List (List ℕ)) (a : ℕ) → length (text_of_row row) ≤ a → length (text_of_rows (row ∷ [])) ≤ a
one_short row a p = omega (arith, p, ap length (flat_map-cons text_of_row row []), length-append (text_of_row row) [])

-- one more record is written of those that are left
pub row_written : (w v : Written) (row : List (List ℕ)) (rest : List (List (List ℕ))) (all : List ℕ) → v ≡ record { text = w.text ++ text_of_row row; row = [] }
    → w.text ++ text_of_rows (row ∷ rest) ≡ all → v.text ++ text_of_rows rest ≡ all
row_written w v row rest all e left =
    ap (λ (x : Written). x.text ++ text_of_rows rest) e ∙ append_assoc w.text (text_of_row row) (text_of_rows rest)
    ∙ ap (λ t. w.text ++ t) (sym (flat_map-cons text_of_row row rest)) ∙ left

-- a list of records is written of those that are left
pub rows_written : (w v : Written) (rows rest : List (List (List ℕ))) (all : List ℕ) → v ≡ record { text = w.text ++ text_of_rows rows; row = [] }
    → w.text ++ text_of_rows (rows ++ rest) ≡ all → v.text ++ text_of_rows rest ≡ all
rows_written w v rows rest all e left =
    ap (λ (x : Written). x.text ++ text_of_rows rest) e ∙ append_assoc w.text (text_of_rows rows) (text_of_rows rest) ∙ ap (λ t. w.text ++ t) (sym (texts_join rows rest)) ∙ left

-- what follows of a value that was returned
pub if_ok : {X E : Type 0} (r : Result X E) (P Q : X → Type 0) → IfOk r P → ((v : X) → P v → Q v) → IfOk r Q
if_ok (Ok v) P Q p h = h v p
if_ok (Err e) P Q p h = tt
