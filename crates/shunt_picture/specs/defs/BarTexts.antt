-- How bars are drawn.
use Rattle.std.specs.Prelude.{ℕ, ◌+◌, ◌-◌, ◌*◌, ◌/◌, List, [], ◌∷◌, ◌++◌, codes, decimal}
use Rattle.shunt_base.specs.declared.ids.Side.{Side}
use Rattle.shunt_base.specs.declared.ids.Side.TheVariants.{A, B}
use Rattle.shunt_base.specs.declared.keys.Stay.{Stay}
use Rattle.shunt_picture.specs.declared.svg.Area.{Area}
use Rattle.shunt_picture.specs.declared.records.LegendType.{LegendType}
use Rattle.shunt_picture.specs.declared.records.Told.{Told}
use Rattle.shunt_picture.specs.declared.records.Bar.{Bar}
use Rattle.shunt_picture.specs.declared.records.Lane.{Lane}
use Rattle.shunt_picture.specs.defs.Svg.{rectangle, wide, words_at, corner}
use Rattle.shunt_picture.specs.defs.Words.{x_of, colour, time_text, label_of, faults_words, side_word, fitting, group_text, told_words}

-- where a bar is drawn: from its entry, or where the hours begin, to its leave, 14 pixels high, in rows of 16
abbrev pub area_of : ℕ → Lane → Bar → Area
area_of from lane b = record {
  x = x_of from b.stay.enter.minute;
  y = lane.top + 16 *
      (b.row - lane.first);
  width = x_of from b.stay.leave.minute - x_of from b.stay.enter.minute;
  height = 14;
}

-- a bar with findings is framed in red
abbrev pub bar_class : List ℕ → List ℕ
bar_class [] = codes "bar k"
bar_class (k ∷ faults) = codes "bad k"

-- the mark at the corner by which a block comes: up for the A end, down for the B end
unfoldable pub corner_in : Area → Side → List ℕ
corner_in a A = corner a.x a.y (codes "h7l-7 7z")
corner_in a B = corner a.x (a.y + 14) (codes "h7l-7 -7z")

-- the same where it goes
unfoldable pub corner_out : Area → Side → List ℕ
corner_out a A = corner (a.x + a.width) a.y (codes "h-7l7 7z")
corner_out a B = corner (a.x + a.width) (a.y + 14) (codes "h-7l7 -7z")

-- for how many bytes there is room in a bar, beside its marks
abbrev pub room_of : ℕ → List ℕ → ℕ
room_of width marks = (width - (16 + wide 7 marks)) / 7

-- its marks, and its label or its id where there is room
unfoldable pub words_in : Area → Told → List ℕ → List ℕ
words_in a t marks = words_at (codes "on mark") 7 (a.x + 9) (a.y + 11) marks ++ words_at (codes "on") 7 (a.x + 9 + wide 7 marks) (a.y + 11)
    (fitting (label_of t) (decimal t.id) (room_of a.width marks))

-- the marks are the numbers of its findings
unfoldable pub bar_words : Area → Told → List ℕ
bar_words a t = words_in a t (faults_words t.faults)

-- when a block stands on a track, and by which sides it comes and goes
unfoldable pub stay_words : List ℕ → Stay → List ℕ
stay_words track s = codes "\n" ++ track ++ codes " by " ++ side_word s.side_in ++ codes " from " ++ time_text s.enter.minute ++ codes " to " ++ time_text s.leave.minute
    ++ codes " by " ++ side_word s.side_out ++ codes "</title>\n"

-- what is shown while one points at a bar
unfoldable pub title_of : List LegendType → List ℕ → Told → Stay → List ℕ
title_of kinds track t s = group_text t ++ told_words kinds t ++ stay_words track s

-- its rectangle
unfoldable pub shape_of : Area → Told → List ℕ
shape_of a t = rectangle (bar_class t.faults) (colour t.kinds) a

-- a bar at a place
unfoldable pub bar_in : List LegendType → List ℕ → Area → Bar → List ℕ
bar_in kinds track a b = title_of kinds track b.told b.stay ++ shape_of a b.told ++ corner_in a b.stay.side_in ++ corner_out a b.stay.side_out ++ bar_words a b.told
    ++ codes "</g>\n"

unfoldable pub bar_text : ℕ → List LegendType → Lane → Bar → List ℕ
bar_text from kinds lane b = bar_in kinds lane.head.name (area_of from lane b) b
