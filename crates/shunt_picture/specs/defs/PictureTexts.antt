-- How a picture is drawn.
use Rattle.std.specs.Prelude.{ℕ, ◌+◌, ◌-◌, ◌*◌, ◌/◌, ◌%◌, ◌==◌, length, min, max, nat_le, Bool, true, false, slice_index_or, List, [], ◌∷◌, ◌++◌, codes, decimal, Option, if◌then◌else◌}
use Rattle.std.specs.List.{flat_map, range_with_len}
use Rattle.shunt_base.specs.declared.ids.TypeId.{TypeId}
use Rattle.shunt_picture.specs.declared.records.LegendType.{LegendType}
use Rattle.shunt_picture.specs.declared.records.TrainMark.{TrainMark}
use Rattle.shunt_picture.specs.declared.records.Loose.{Loose}
use Rattle.shunt_picture.specs.declared.records.Picture.{Picture}
use Rattle.shunt_picture.specs.defs.Svg.{attribute, rectangle, stroke, wide, words_at}
use Rattle.shunt_picture.specs.defs.Words.{x_of, colour, letter, time_text, kind_name, group_text, told_words, each_from}
use Rattle.shunt_picture.specs.defs.Told.{track_words}
use Rattle.shunt_picture.specs.defs.LaneTexts.{lane_text}

-- where the hours end
abbrev pub right_of : ℕ → ℕ → ℕ
right_of from to = 150 + 120 * (to - from)

-- how words and lines look
unfoldable pub words_style : List ℕ
words_style = codes "<style>.night{max-width:100%;height:auto;background:#fff}.night text{font:11px monospace;fill:#222;white-space:pre}.night .title{font-size:14px;font-weight:bold}.night .name{font-weight:bold}.night .small,.night .hour{font-size:10px;fill:#555}\n" ++ codes ".night .end{font-weight:bold;fill:#06c}.night .mark{font-weight:bold;fill:#c00}.night path{fill:none}.night .tick{stroke:#888}.night .rule{stroke:#ddd}.night .full{stroke:#06c;stroke-dasharray:4 3}.night .load{fill:#bcd;stroke:#678}.night .side{fill:#06c}\n"

-- how bars look
unfoldable pub bars_style : List ℕ
bars_style = codes ".night .page0{fill:#fff}.night .lane0{fill-opacity:.04}.night .lane1{fill-opacity:0}.night .bar{stroke:#555}.night .bad{stroke:#c00;stroke-width:2.5}.night .on.mark{stroke:#fff;stroke-width:3;paint-order:stroke}\n" ++ codes ".night .k0{fill:#a6cee3}.night .k1{fill:#b2df8a}.night .k2{fill:#fdbf6f}.night .k3{fill:#cab2d6}.night .k4{fill:#ffff99}.night .k5{fill:#8dd3c7}.night .k6{fill:#d9d9d9}.night .k7{fill:#fccde5}.night .k8{fill:#e5c494}.night .k9{fill:#ccebc5}.night .k10{fill:#b3cde3}.night .k11{fill:#ffed6f}\n"

-- how it looks on dark screens, and on paper
unfoldable pub dark_style : List ℕ
dark_style = codes "@media screen and (prefers-color-scheme:dark){.night,.night .page0{background:#15181c;fill:#15181c}.night text{fill:#ddd}.night .small,.night .hour{fill:#aaa}.night text.on{fill:#222}.night .end{fill:#7ab8ff}.night .mark{fill:#ff8a80}.night .on.mark{fill:#c00}.night .rule{stroke:#3a3f45}.night .lane0{fill:#fff;fill-opacity:.06}.night .load{fill:#3b4a5a;stroke:#8fa3b8}.night .full{stroke:#7ab8ff}}\n" ++ codes "@page{margin:10mm}@media print{.night{max-height:100vh}}</style>\n"

-- how things look
unfoldable pub style : List ℕ
style = words_style ++ bars_style ++ dark_style

-- what each text begins with
unfoldable pub svg_name : List ℕ
svg_name = codes "<svg xmlns='http://www.w3.org/2000/svg' xml:space='preserve' class='night' role='img'"

-- how much of it is seen, and how large
unfoldable pub seen_text : ℕ → ℕ → List ℕ
seen_text width height = codes " viewBox='0 0 " ++ decimal width ++ codes " " ++ decimal height ++ codes "'"

unfoldable pub size_text : ℕ → ℕ → List ℕ
size_text width height = attribute (codes "width") width ++ attribute (codes "height") height

unfoldable pub view_text : ℕ → ℕ → List ℕ
view_text width height = seen_text width height ++ size_text width height

-- the beginning of a text that is so wide and so high, and is told in these words
unfoldable pub svg_opened : ℕ → ℕ → List ℕ → List ℕ
svg_opened width height words = svg_name ++ view_text width height ++ codes " aria-label='" ++ words ++ codes "'>\n"

-- how the paper lies
unfoldable pub paper_text : ℕ → ℕ → List ℕ
paper_text width height = if nat_le height width then codes "<style>@page{size:landscape}</style>\n" else codes "<style>@page{size:portrait}</style>\n"

-- its ground
unfoldable pub page_text : ℕ → ℕ → List ℕ
page_text width height = rectangle (codes "page") 0 (record { x = 0; y = 0; width = width; height = height })

unfoldable pub start_of : ℕ → ℕ → List ℕ → List ℕ
start_of width height words = svg_opened width height words ++ style ++ paper_text width height ++ page_text width height

-- what is told of the plan as a whole
unfoldable pub title_words : List ℕ → ℕ → ℕ → ℕ → List ℕ
title_words station findings cost stated = station ++ codes " findings " ++ decimal findings ++ codes " cost " ++ decimal cost ++ codes " stated " ++ decimal stated

-- how marks are to be read
unfoldable pub bars_note : List ℕ
bars_note = codes "bar: a block on its track; blue corners: the end by which it comes and goes, A up and B down"

unfoldable pub marks_note : List ℕ
marks_note = codes "below the bars: the load of the track, and dashed its length; red: numbers of findings"

-- the title, and the notes below it
unfoldable pub title_text : List ℕ → List ℕ
title_text words = words_at (codes "title") 9 6 18 words ++ words_at (codes "small") 6 6 34 bars_note ++ words_at (codes "small") 6 6 46 marks_note

-- what stands at the top
unfoldable pub top_part : ℕ → ℕ → List ℕ → List ℕ
top_part width height words = start_of width height words ++ title_text words

unfoldable pub start_text : Picture → List ℕ
start_text p = top_part p.width p.height (title_words p.station p.findings p.cost p.stated)

-- where an entry of a list stands, by its number from 0
abbrev pub entry_x : ℕ → ℕ → ℕ → ℕ
entry_x room columns entry = 6 + room * (entry % max columns 1)

abbrev pub entry_y : ℕ → ℕ → ℕ → ℕ
entry_y columns top entry = top + 16 * (min entry 4096 / max columns 1) + 12

-- the type with a number
abbrev pub kind_number : ℕ → TypeId
kind_number entry = record { 0 = entry % 256 }

-- the colour of a type with its letter
unfoldable pub swatch_text : ℕ → ℕ → TypeId → List ℕ
swatch_text x y number = rectangle (codes "bar k") (colour (number ∷ [])) (record { x = x; y = y - 11; width = 18; height = 13 })
    ++ words_at (codes "on") 7 (x + 5) y (letter number ∷ [])

-- a type at a place: its colour with its letter, its name and its length
unfoldable pub kind_in : ℕ → ℕ → TypeId → LegendType → List ℕ
kind_in x y number kind = swatch_text x y number ++ words_at (codes "label") 7 (x + 24) y kind.words

unfoldable pub kind_text : ℕ → ℕ → ℕ → LegendType → List ℕ
kind_text room columns entry kind = kind_in (entry_x room columns entry) (entry_y columns 52 entry) (kind_number entry) kind

abbrev pub kinds_text : ℕ → ℕ → List LegendType → List ℕ
kinds_text room columns kinds = each_from (kind_text room columns) 0 kinds

-- where an hour stands
abbrev pub hour_x : Picture → ℕ → ℕ
hour_x p hour = 150 + 120 * (hour - p.from)

-- a line through all lanes
unfoldable pub rule_text : Picture → ℕ → List ℕ
rule_text p x = stroke (codes "rule") (record { x = x; y = p.lanes_top; width = 0; height = p.loose_top - p.lanes_top })

-- an hour at its place: the line, and its number above the lanes
unfoldable pub hour_words : ℕ → List ℕ
hour_words hour = decimal hour ++ codes ":00"

unfoldable pub hour_in : Picture → ℕ → ℕ → List ℕ
hour_in p x hour = rule_text p x ++ words_at (codes "hour") 6 x (p.lanes_top - 4) (hour_words hour)

unfoldable pub hour_text : Picture → ℕ → List ℕ
hour_text p hour = hour_in p (hour_x p hour) hour

abbrev pub hours_text : Picture → List ℕ
hours_text p = flat_map (hour_text p) (range_with_len p.from (p.to - p.from))

-- the stroke at its minute
unfoldable pub tick_text : ℕ → ℕ → List ℕ
tick_text x y = stroke (codes "tick") (record { x = x; y = y + 2; width = 0; height = 10 })

-- the group of a train, arriving or departing
abbrev pub group_word : Bool → List ℕ
group_word arrives = if arrives then codes "<g data-arrive='" else codes "<g data-depart='"

unfoldable pub train_group : Bool → List ℕ → List ℕ
train_group arrives name = group_word arrives ++ name ++ codes "'><title>"

-- when it comes or goes, or where it stands already
abbrev pub when_word : Bool → Bool → List ℕ
when_word arrives stands = if stands then codes "stands already " else if arrives then codes "arrives " else codes "departs "

unfoldable pub train_when : Bool → TrainMark → List ℕ
train_when arrives t = when_word arrives t.stands ++ t.name ++ codes " " ++ time_text t.minute ++ codes " " ++ t.place

-- a unit or position with its type
unfoldable pub seat_line : List LegendType → ℕ → TypeId → List ℕ
seat_line kinds k kind = codes "\n" ++ decimal (k + 1) ++ codes " " ++ kind_name kinds kind

abbrev pub seat_lines : List LegendType → List TypeId → List ℕ
seat_lines kinds seats = each_from (seat_line kinds) 0 seats

-- places one after the other
abbrev pub number_text : ℕ → List ℕ
number_text place = codes " " ++ decimal place

abbrev pub numbers_text : List ℕ → List ℕ
numbers_text places = flat_map number_text places

-- those that are in no block, or in two
unfoldable pub wrong_line : List ℕ → List ℕ → List ℕ
wrong_line words places = if length places == 0 then [] else words ++ numbers_text places

-- what is shown while one points at a train
unfoldable pub train_wrong : List ℕ → List ℕ → List ℕ
train_wrong bare twice = wrong_line (codes "\nin no block") bare ++ wrong_line (codes "\nin two blocks") twice ++ codes "</title>\n"

unfoldable pub train_title : List LegendType → Bool → TrainMark → List ℕ
train_title kinds arrives t = train_group arrives t.name ++ train_when arrives t ++ seat_lines kinds t.kinds ++ train_wrong t.bare t.twice

-- a train at a place
unfoldable pub train_in : List LegendType → ℕ → ℕ → Bool → TrainMark → List ℕ
train_in kinds x y arrives t = train_title kinds arrives t ++ tick_text x y ++ words_at (codes "label") 7 (x + 3) (y + 11) t.words
    ++ words_at (codes "mark") 7 (x + 3 + wide 7 t.words) (y + 11) t.marks ++ codes "</g>\n"

-- a train at its minute
unfoldable pub train_text : List LegendType → ℕ → ℕ → Bool → TrainMark → List ℕ
train_text kinds from y arrives t = train_in kinds (x_of from t.minute) y arrives t

-- trains one after the other in their rows
abbrev pub trains_text : List LegendType → ℕ → ℕ → Bool → List ℕ → List TrainMark → List ℕ
trains_text kinds from top arrives rows trains = each_from (λ entry t. train_text kinds from (top + 12 * slice_index_or rows entry 0) arrives t) 0 trains

-- what is shown while one points at a loose block
unfoldable pub loose_times : ℕ → ℕ → List ℕ
loose_times enter leave = codes " " ++ time_text enter ++ codes " " ++ time_text leave ++ codes "</title>\n"

unfoldable pub loose_where : Option (List ℕ) → ℕ → ℕ → List ℕ
loose_where track enter leave = codes "\nnot on a track" ++ track_words track ++ loose_times enter leave

unfoldable pub loose_title : List LegendType → Loose → List ℕ
loose_title kinds l = group_text l.told ++ told_words kinds l.told ++ loose_where l.track l.enter l.leave

-- its colour
unfoldable pub loose_mark : ℕ → ℕ → List TypeId → List ℕ
loose_mark x y kinds = rectangle (codes "bar k") (colour kinds) (record { x = x; y = y - 10; width = 10; height = 11 })

-- a loose block at a place
unfoldable pub loose_in : List LegendType → ℕ → ℕ → Loose → List ℕ
loose_in kinds x y l = loose_title kinds l ++ loose_mark x y l.told.kinds ++ words_at (codes "mark") 7 (x + 15) y l.marks
    ++ words_at (codes "label") 7 (x + 15 + wide 7 l.marks) y l.words ++ codes "</g>\n"

unfoldable pub loose_text : List LegendType → ℕ → ℕ → ℕ → ℕ → Loose → List ℕ
loose_text kinds room columns top entry l = loose_in kinds (entry_x room columns entry) (entry_y columns top entry) l

abbrev pub looses_text : List LegendType → ℕ → ℕ → ℕ → List Loose → List ℕ
looses_text kinds room columns top looses = each_from (loose_text kinds room columns top) 0 looses

-- the names of the lines above the lanes and of the list below them
unfoldable pub arrive_name : ℕ → List ℕ
arrive_name top = words_at (codes "name") 7 6 (top + 11) (codes "arriving trains")

unfoldable pub depart_name : ℕ → List ℕ
depart_name top = words_at (codes "name") 7 6 (top + 11) (codes "departing trains")

unfoldable pub loose_name : ℕ → List ℕ
loose_name top = words_at (codes "name") 7 6 (top + 18) (codes "unparked blocks")

unfoldable pub names_text : Picture → List ℕ
names_text p = arrive_name p.arrive_top ++ depart_name p.depart_top ++ loose_name p.loose_top

-- the lines of trains
unfoldable pub trains_part : Picture → List ℕ
trains_part p = trains_text p.kinds p.from p.arrive_top true p.arrive_rows p.arrive ++ trains_text p.kinds p.from p.depart_top false p.depart_rows p.depart

-- what stands above the lanes, and the hours
unfoldable pub head_part : Picture → List ℕ
head_part p = start_text p ++ kinds_text p.kind_room p.kind_columns p.kinds ++ names_text p ++ trains_part p ++ hours_text p

-- the lanes, and what stands below them
unfoldable pub body_part : Picture → List ℕ
body_part p = flat_map (lane_text p.from (right_of p.from p.to) p.kinds) p.lanes ++ looses_text p.kinds p.loose_room p.loose_columns (p.loose_top + 24) p.loose ++ codes "</svg>\n"

-- the whole text
unfoldable pub svg_of : Picture → List ℕ
svg_of p = head_part p ++ body_part p
