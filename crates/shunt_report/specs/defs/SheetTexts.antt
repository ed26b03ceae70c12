-- The printed texts of sheets.
use Rattle.std.specs.Prelude.{ℕ, List, ◌++◌, length, codes, decimal}
use Rattle.shunt_sheet.specs.declared.records.Order.{Order}
use Rattle.shunt_sheet.specs.declared.records.Followed.{Followed}
use Rattle.shunt_sheet.specs.declared.records.Followed.TheVariants as answers

-- `sheet orders N`
unfoldable pub sheet_of : List Order → List ℕ
sheet_of orders = codes "sheet orders " ++ decimal (length orders) ++ codes "\n"

-- `followed orders N left K`, `order K blocked` or `order K over LOAD`
unfoldable pub followed_of : List Order → Followed → List ℕ
followed_of orders (answers.Through left) = codes "followed orders " ++ decimal (length orders) ++ codes " left " ++ decimal left ++ codes "\n"
followed_of orders (answers.Blocked number) = codes "order " ++ decimal number ++ codes " blocked\n"
followed_of orders (answers.Over number load) = codes "order " ++ decimal number ++ codes " over " ++ decimal load ++ codes "\n"
