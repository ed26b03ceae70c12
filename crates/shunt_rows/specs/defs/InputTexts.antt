-- The line for an input file that isn't accepted.
use Rattle.std.specs.Prelude.{List, ◌++◌, codes, decimal, Option, Some, None, ℕ}
use Rattle.shunt_rows.specs.declared.fault.RowFault.{RowFault}
use Rattle.shunt_rows.specs.declared.words.FileWord.{FileWord}
use Rattle.shunt_rows.specs.declared.words.FileWord.TheVariants as word
use Rattle.shunt_rows.specs.defs.Faults.{kind_number}

-- the word for a file
abbrev pub file_word : FileWord → List ℕ
file_word word.Station = codes "station"
file_word word.Timetable = codes "timetable"
file_word word.Plan = codes "plan"
file_word word.Other = codes "other"
file_word word.Edits = codes "edits"
file_word word.Certificate = codes "certificate"
file_word word.Pins = codes "pins"
file_word word.Zones = codes "zones"
file_word word.Crew = codes "crew"
file_word word.Roster = codes "roster"
file_word word.Sheet = codes "sheet"

-- `input FILE record R field F kind K` at a first fault, or `input FILE too long`
unfoldable pub input_of : FileWord → Option RowFault → List ℕ
input_of file None = codes "input " ++ file_word file ++ codes " too long\n"
input_of file (Some fault) = codes "input " ++ file_word file ++ codes " record " ++ decimal fault.row ++ codes " field " ++ decimal fault.field ++ codes " kind "
    ++ decimal (kind_number fault.kind) ++ codes "\n"
