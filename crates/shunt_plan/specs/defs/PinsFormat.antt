-- The format of pins in a night.
use Rattle.std.specs.Prelude.{ℕ, true, false, List, [], if◌then◌else◌, codes}
use Rattle.shunt_rows.specs.defs.Checks.{Judged}
use Rattle.shunt_rows.specs.defs.Fields.{is_word, no_word}
use Rattle.shunt_rows.specs.defs.Formats.{Format}
use Rattle.shunt_instance.specs.defs.Instance.{Night}
use Rattle.shunt_blocks.specs.declared.records.Block.{Block}
use Rattle.shunt_plan.specs.defs.BlockRecords.{first_in, blocks_of}

-- `pins,1`
unfoldable pub pins_first : List (List ℕ) → Judged (List Block)
pins_first row = first_in (codes "pins") [] row

-- a later record: one more block
unfoldable pub pins_later : Night → List Block → List (List ℕ) → Judged (List Block)
pins_later night blocks row = if is_word row (codes "block") then blocks_of night blocks row else no_word blocks

-- the pins file: no record is the last one, and none is missing behind the first
abbrev pub pins_format : Night → Format (List Block) (List Block)
pins_format night = record { first = pins_first; later = pins_later night; has_ended = λ blocks. false; is_whole = λ blocks. true; value = λ blocks. blocks }
