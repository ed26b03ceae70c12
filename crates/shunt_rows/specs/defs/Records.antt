-- The records of a file, and the text of records.
use Rattle.std.specs.Prelude.{◌≡◌, ℕ, ◌+◌, ◌-◌, ◌<◌, Bool, ◌||◌, ◌==◌, List, [], ◌∷◌, length, IsTrue, slice_index_or}
use Rattle.std.specs.List.{flat_map, AllByRecursion}
use Rattle.csv.specs.Reading.{records, default_config, strip_bom}
use Rattle.csv.specs.Writing.{row_text, default_writer}
use Rattle.shunt_base.specs.defs.Spelling.{is_name_byte}

-- the records that `csv` reads of these bytes, without headers
abbrev pub records_of : List ℕ → List (List (List ℕ))
records_of bytes = records default_config (strip_bom bytes)

-- the field of a record with this number, counted from 1; no bytes where there is none
abbrev pub at : List (List ℕ) → ℕ → List ℕ
at row k = slice_index_or row (k - 1) []

-- a record as `csv` writes it, with the end of its line
abbrev pub text_of_row : List (List ℕ) → List ℕ
text_of_row row = row_text default_writer row

-- the text of records, one after the other
abbrev pub text_of_rows : List (List (List ℕ)) → List ℕ
text_of_rows rows = flat_map text_of_row rows

-- a byte that may stand in a name, or `:`
abbrev pub is_plain : ℕ → Bool
is_plain b = is_name_byte b || b == 58

-- at least one such byte, and no other
abbrev pub IsPlainField : List ℕ → Type 0
IsPlainField field = (0 < length field) × AllByRecursion (λ b. IsTrue (is_plain b)) field

-- at least one such field, and no other
abbrev pub IsPlainRow : List (List ℕ) → Type 0
IsPlainRow row = (0 < length row) × AllByRecursion IsPlainField row

-- such rows
abbrev pub ArePlain : List (List (List ℕ)) → Type 0
ArePlain rows = AllByRecursion IsPlainRow rows

-- the bytes of the fields, with one more for each
abbrev pub width : List (List ℕ) → ℕ
width [] = 0
width (field ∷ fields) = length field + 1 + width fields

-- where the rows that were written are plain, they are the records of these bytes
abbrev pub ReadsBack : List ℕ → List ℕ → Type 0
ReadsBack text bytes = (rows : List (List (List ℕ))) → ArePlain rows → text ≡ text_of_rows rows → records_of bytes ≡ rows
