-- Rows of tables.
use Rattle.std.specs.Prelude.{ℕ, ◌==◌, Bool, List, [], ◌++◌, length, codes, decimal, Option, Some, None, if◌then◌else◌}
use Rattle.std.specs.List.{flat_map}
use Rattle.shunt_picture.specs.defs.Words.{each_from}
use Rattle.shunt_page.specs.declared.records.OrderRow.{OrderRow}
use Rattle.shunt_page.specs.declared.records.LooseRow.{LooseRow}
use Rattle.shunt_page.specs.declared.records.Filling.{Filling}
use Rattle.shunt_page.specs.declared.records.Seat.{Seat}
use Rattle.shunt_page.specs.declared.records.DepartRow.{DepartRow}
use Rattle.shunt_page.specs.declared.records.FindingLine.{FindingLine}
use Rattle.shunt_page.specs.declared.records.TrainTold.{TrainTold}
use Rattle.shunt_page.specs.defs.Cells.{cell, number_cell, time_cell, link_open, link_cell, unit_text, units_cell, side_letter, beside_cell, comma}

-- a number with what it counts
unfoldable pub fact_row : List ℕ → ℕ → List ℕ
fact_row words n = codes "<tr><th scope='row'>" ++ words ++ codes "</th><td class='n'>" ++ decimal n ++ codes "</td></tr>\n"

-- a finding
unfoldable pub finding_item : FindingLine → List ℕ
finding_item f = codes "<li>" ++ f.words ++ codes "</li>\n"

-- what an order begins with: its block, and its train
abbrev pub order_class : Bool → List ℕ
order_class enters = if enters then codes "<tr class='in' data-block='" else codes "<tr class='out' data-block='"

abbrev pub order_train : Bool → List ℕ
order_train enters = if enters then codes "' data-arrive='" else codes "' data-depart='"

unfoldable pub order_open : OrderRow → List ℕ
order_open r = order_class r.order.enters ++ decimal r.order.id ++ order_train r.order.enters ++ r.train.name ++ codes "'>"

abbrev pub order_word : Bool → List ℕ
order_word enters = if enters then codes "comes" else codes "goes"

-- before whom the block stands, and what then stands on the track, of which length
unfoldable pub order_end : OrderRow → List ℕ
order_end r = beside_cell r.order.enters r.beside ++ number_cell r.load ++ number_cell r.length ++ codes "</tr>\n"

-- when which block comes or goes, and its units
unfoldable pub order_what : OrderRow → List ℕ
order_what r = time_cell r.order.minute ++ cell (order_word r.order.enters) ++ link_cell r.order.id ++ units_cell r.units

-- with which train, and by which side of which track
unfoldable pub order_where : OrderRow → List ℕ
order_where r = cell r.train.name ++ cell r.train.place ++ cell r.track ++ cell (side_letter r.order.side)

unfoldable pub order_text : OrderRow → List ℕ
order_text r = order_open r ++ order_what r ++ order_where r ++ order_end r

-- a block that stands already
unfoldable pub already_text : OrderRow → List ℕ
already_text r = order_open r ++ link_cell r.order.id ++ units_cell r.units ++ cell r.train.name ++ cell r.track ++ order_end r

abbrev pub already_row : OrderRow → List ℕ
already_row r = if r.already then already_text r else []

abbrev pub order_row : OrderRow → List ℕ
order_row r = if r.already then [] else order_text r

abbrev pub already_rows : List OrderRow → List ℕ
already_rows rows = flat_map already_row rows

abbrev pub order_rows : List OrderRow → List ℕ
order_rows rows = flat_map order_row rows

-- where a block is parked
abbrev pub parked_words : Option (List ℕ) → List ℕ
parked_words None = codes "unparked"
parked_words (Some name) = codes "too soon on " ++ name

unfoldable pub parked_cell : Option (List ℕ) → List ℕ
parked_cell track = codes "<td>" ++ parked_words track ++ codes "</td>"

-- a block that isn't on a track
unfoldable pub loose_with : ℕ → List ℕ → List ℕ → List ℕ
loose_with id arr dep = codes "<tr data-block='" ++ decimal id ++ codes "' data-arrive='" ++ arr ++ codes "' data-depart='" ++ dep ++ codes "'>"

unfoldable pub loose_open : LooseRow → List ℕ
loose_open l = loose_with l.id l.arr.name l.dep.name

-- a train with its minute and its platform
unfoldable pub train_cells : TrainTold → List ℕ
train_cells t = cell t.name ++ time_cell t.minute ++ cell t.place

unfoldable pub loose_row : LooseRow → List ℕ
loose_row l = loose_open l ++ link_cell l.id ++ units_cell l.units ++ train_cells l.arr ++ train_cells l.dep ++ parked_cell l.track ++ codes "</tr>\n"

abbrev pub loose_rows : List LooseRow → List ℕ
loose_rows looses = flat_map loose_row looses

-- what fills a position
abbrev pub from_words : Option (List ℕ) → List ℕ
from_words None = []
from_words (Some name) = codes " from " ++ name

unfoldable pub block_end : ℕ → List ℕ
block_end id = codes "block " ++ decimal id ++ codes "</a>"

unfoldable pub block_link : ℕ → List ℕ
block_link id = codes ", " ++ link_open id ++ block_end id

unfoldable pub filling_item : ℕ → Filling → List ℕ
filling_item k f = comma k ++ unit_text f.unit ++ block_link f.id ++ from_words f.track

abbrev pub fillings_text : List Filling → List ℕ
fillings_text fillings = each_from filling_item 0 fillings

abbrev pub seat_words : List Filling → List ℕ
seat_words fillings = if length fillings == 0 then codes "nobody" else fillings_text fillings

unfoldable pub seat_item : Seat → List ℕ
seat_item s = codes "<li>" ++ seat_words s.fillings ++ codes "</li>"

abbrev pub seat_items : List Seat → List ℕ
seat_items seats = flat_map seat_item seats

-- a departing train with its units in the order of positions
unfoldable pub depart_open : List ℕ → List ℕ
depart_open name = codes "<tr data-depart='" ++ name ++ codes "'>"

unfoldable pub name_cell : List ℕ → List ℕ
name_cell name = codes "<th scope='row'>" ++ name ++ codes "</th>"

unfoldable pub seats_cell : List Seat → List ℕ
seats_cell seats = codes "<td><ol>" ++ seat_items seats ++ codes "</ol></td></tr>\n"

unfoldable pub depart_row : DepartRow → List ℕ
depart_row d = depart_open d.train.name ++ time_cell d.train.minute ++ name_cell d.train.name ++ cell d.train.place ++ seats_cell d.seats

abbrev pub depart_rows : List DepartRow → List ℕ
depart_rows departs = flat_map depart_row departs
