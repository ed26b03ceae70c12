-- A `csv` writer over a vector, to which rows of any lengths are written.
use Rattle.std.specs.Prelude.{◌≡◌, ℕ, List, ◌++◌, true, false, Vec}
use Rattle.csv.specs.Writing.{default_writer, with_flexible, writer_setup, writer_under, writer_pending, fields_written, has_written}
use Rattle.csv.specs.declared.writer.Writer.{Writer}

-- the text that was written
abbrev pub rows_text : {A : Type 0} → Writer (Vec ℕ A) → List ℕ
rows_text w = (writer_under w).items ++ writer_pending w

-- rows may have any lengths, and no row is open
pub record IsAtRow {A : Type 0} (w : Writer (Vec ℕ A)) : Type 0 where
  pub setup : writer_setup w ≡ with_flexible default_writer true
  pub none : fields_written w ≡ 0
  pub nothing : has_written w ≡ false
