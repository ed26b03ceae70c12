-- Cells of tables.
use Rattle.std.specs.Prelude.{ℕ, ◌==◌, Bool, List, [], ◌++◌, codes, decimal, Option, Some, None, if◌then◌else◌}
use Rattle.shunt_base.specs.declared.ids.Side.{Side}
use Rattle.shunt_base.specs.declared.ids.Side.TheVariants.{A, B}
use Rattle.shunt_base.specs.defs.Spelling.{minute_text}
use Rattle.shunt_picture.specs.defs.Words.{each_from}
use Rattle.shunt_page.specs.declared.records.UnitTold.{UnitTold}

unfoldable pub cell : List ℕ → List ℕ
cell words = codes "<td>" ++ words ++ codes "</td>"

unfoldable pub number_cell : ℕ → List ℕ
number_cell n = codes "<td class='n'>" ++ decimal n ++ codes "</td>"

unfoldable pub time_cell : ℕ → List ℕ
time_cell minute = codes "<td>" ++ minute_text minute ++ codes "</td>"

-- a block's number, which leads to its bar or its mark in the picture
unfoldable pub link_open : ℕ → List ℕ
link_open id = codes "<a href='#b" ++ decimal id ++ codes "'>"

unfoldable pub link_end : ℕ → List ℕ
link_end id = decimal id ++ codes "</a></td>"

unfoldable pub link_cell : ℕ → List ℕ
link_cell id = codes "<td>" ++ link_open id ++ link_end id

-- a unit by its train, its place there and its type
unfoldable pub unit_text : UnitTold → List ℕ
unit_text u = u.train ++ codes " " ++ decimal u.place ++ codes " " ++ u.kind

-- what stands between one and the next
abbrev pub comma : ℕ → List ℕ
comma k = if k == 0 then [] else codes ", "

unfoldable pub unit_item : ℕ → UnitTold → List ℕ
unit_item k u = comma k ++ unit_text u

abbrev pub units_text : List UnitTold → List ℕ
units_text units = each_from unit_item 0 units

unfoldable pub units_cell : List UnitTold → List ℕ
units_cell units = codes "<td>" ++ units_text units ++ codes "</td>"

-- the letter of a side
abbrev pub side_letter : Side → List ℕ
side_letter A = codes "A"
side_letter B = codes "B"

-- before whom a block stands that has come, or who stands in the way of one that goes
abbrev pub beside_none : Bool → List ℕ
beside_none enters = if enters then codes "alone" else codes "free"

abbrev pub beside_some : Bool → List ℕ
beside_some enters = if enters then codes "in front of " else codes "behind "

abbrev pub beside_words : Bool → Option ℕ → List ℕ
beside_words enters None = beside_none enters
beside_words enters (Some id) = beside_some enters ++ decimal id

unfoldable pub beside_cell : Bool → Option ℕ → List ℕ
beside_cell enters id = codes "<td>" ++ beside_words enters id ++ codes "</td>"
