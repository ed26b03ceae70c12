-- What a store over real files is doing.
use Rattle.std.specs.Prelude.{ℕ, IfSome, string_bytes}
use Rattle.shunt_store.specs.declared.disk.DiskState.{DiskState}
use Rattle.shunt_store.specs.declared.disk.DiskState.TheVariants as doing
use Rattle.shunt_store.specs.defs.Files.{Stage, Closed, Reading, Writing}
use Rattle.shunt_store.specs.defs.Parts.{part_endings, EndsWith}

-- the name beside the open file says what is read or written
abbrev pub stage_of_file : {F A : Type 0} → DiskState F A → Stage
stage_of_file doing.Closed = Closed
stage_of_file (doing.Reading file name) = Reading name.items
stage_of_file (doing.Writing name draft) = Writing name.items draft.text.bytes

-- what is written beside another file has a name with so many endings
abbrev pub HasEndings : {F A : Type 0} → ℕ → DiskState F A → Type 0
HasEndings n doing.Closed = Unit {0}
HasEndings n (doing.Reading file name) = Unit {0}
HasEndings n (doing.Writing name draft) = IfSome draft.beside (λ b. EndsWith (string_bytes b.part) (part_endings n))
