-- The records of pins as they are written.
use Rattle.std.specs.Prelude.{◌≡◌, ℕ, List, ◌∷◌, [], map, Ok, codes}
use Rattle.std.specs.Fmt.{decimal}
use Rattle.shunt_rows.specs.defs.Records.{records_of}
use Rattle.shunt_rows.specs.defs.Formats.{reading}
use Rattle.shunt_instance.specs.defs.Instance.{Night}
use Rattle.shunt_blocks.specs.declared.records.Block.{Block}
use Rattle.shunt_plan.specs.defs.PinsFormat.{pins_format}
use Rattle.shunt_plan.specs.defs.PlanRows.{written_version, block_row}

-- `pins,1`
abbrev pub pins_head : List (List ℕ)
pins_head = codes "pins" ∷ decimal written_version ∷ []

-- the first record, and the pins in their order
abbrev pub rows_of_pins : Night → List Block → List (List (List ℕ))
rows_of_pins night pins = pins_head ∷ map (block_row night) pins

-- the records of a text are those of the pins, and state them
pub record ReadsAsPins (night : Night) (pins : List Block) (text : List ℕ) : Type 0 where
  pub rows : records_of text ≡ rows_of_pins night pins
  pub value : reading (pins_format night) (records_of text) ≡ Ok pins
