-- The records of a sheet as they are written.
use Rattle.std.specs.Prelude.{◌≡◌, ℕ, List, [], ◌∷◌, map, Ok, codes}
use Rattle.std.specs.Fmt.{decimal}
use Rattle.shunt_base.specs.defs.Spelling.{minute_text}
use Rattle.shunt_rows.specs.defs.Records.{records_of}
use Rattle.shunt_rows.specs.defs.Written.{side_text, move_word}
use Rattle.shunt_rows.specs.defs.Formats.{reading}
use Rattle.shunt_instance.specs.declared.records.Station.{Station}
use Rattle.shunt_plan.specs.defs.PlanRows.{track_name}
use Rattle.shunt_sheet.specs.declared.records.Order.{Order}
use Rattle.shunt_sheet.specs.defs.SheetFormat.{sheet_format}

-- the version that is written
abbrev pub written_version : ℕ
written_version = 1

-- `sheet,1`
abbrev pub head_row : List (List ℕ)
head_row = codes "sheet" ∷ decimal written_version ∷ []

-- `order,MINUTE,MOVE,ID,LENGTH,TRACK,SIDE`, by the name of the station's track
abbrev pub order_row : Station → Order → List (List ℕ)
order_row s o = codes "order" ∷ minute_text o.minute ∷ move_word o.enters ∷ decimal o.id ∷ decimal o.length ∷ track_name s o.track ∷ side_text o.side ∷ []

-- the records of orders, in their order
abbrev pub rows_of : Station → List Order → List (List (List ℕ))
rows_of s orders = head_row ∷ map (order_row s) orders

-- the records of a text are those of the orders, and state them
pub record ReadsAsSheet (s : Station) (orders : List Order) (text : List ℕ) : Type 0 where
  pub rows : records_of text ≡ rows_of s orders
  pub value : reading (sheet_format s) (records_of text) ≡ Ok orders
