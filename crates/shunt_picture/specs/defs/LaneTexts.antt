-- How lanes are drawn.
use Rattle.std.specs.Prelude.{ℕ, ◌+◌, ◌-◌, ◌*◌, ◌/◌, ◌%◌, min, max, Bool, List, [], ◌++◌, codes, decimal, if◌then◌else◌}
use Rattle.std.specs.List.{flat_map}
use Rattle.shunt_picture.specs.declared.records.LegendType.{LegendType}
use Rattle.shunt_picture.specs.declared.records.LoadLevel.{LoadLevel}
use Rattle.shunt_picture.specs.declared.records.Lane.{Lane}
use Rattle.shunt_picture.specs.defs.Svg.{rectangle, stroke, words_at}
use Rattle.shunt_picture.specs.defs.Words.{x_of}
use Rattle.shunt_picture.specs.defs.BarTexts.{bar_text}

-- how high the rows of a lane are together, in pixels
abbrev pub rows_high : Lane → ℕ
rows_high l = 16 * (l.last - l.first + 1)

-- where the line of a lane's load is at 0
abbrev pub base_of : Lane → ℕ
base_of l = l.top + rows_high l + 30

-- how high a load is drawn: 14 pixels for the track's length, twice as much at most
abbrev pub level_height : ℕ → ℕ → ℕ
level_height room load = (min load (2 * room) * 14) / max room 1

-- from a minute on the load is drawn at its height
abbrev pub level_text : ℕ → Lane → LoadLevel → List ℕ
level_text from l v = codes "H" ++ decimal (x_of from v.minute) ++ codes "V" ++ decimal (base_of l - level_height l.head.length v.load)

-- the track's length as a line, over the line where its load is 0
unfoldable pub full_text : ℕ → ℕ → List ℕ
full_text right base = stroke (codes "full") (record { x = 150; y = base - 14; width = right - 150; height = 0 })

-- the load at each minute at which it changes
unfoldable pub levels_text : ℕ → Lane → List ℕ
levels_text from l = flat_map (level_text from l) l.levels

-- back to that line where the hours end
unfoldable pub load_end : ℕ → ℕ → List ℕ
load_end right base = codes "H" ++ decimal right ++ codes "V" ++ decimal base ++ codes "z'/>\n"

-- the load over that line
unfoldable pub load_over : ℕ → ℕ → ℕ → Lane → List ℕ
load_over from right base l = codes "<path class='load' d='M150 " ++ decimal base ++ levels_text from l ++ load_end right base

-- the load, and the track's length
unfoldable pub load_text : ℕ → ℕ → Lane → List ℕ
load_text from right l = load_over from right (base_of l) l ++ full_text right (base_of l)

-- the letter of an end at which the track is open
unfoldable pub end_text : Bool → ℕ → List ℕ → List ℕ
end_text is_open y word = if is_open then words_at (codes "end") 7 138 y word else []

-- its open ends
unfoldable pub ends_text : Lane → List ℕ
ends_text l = end_text l.head.side_a (l.top + 9) (codes "A") ++ end_text l.head.side_b (l.top + rows_high l + 3) (codes "B")

-- a length
unfoldable pub length_words : ℕ → List ℕ
length_words n = decimal n ++ codes " dm"

-- its name, its length, and its open ends
unfoldable pub head_text : Lane → List ℕ
head_text l = words_at (codes "name") 7 6 (l.top + 12) l.head.name ++ words_at (codes "small") 6 6 (l.top + 26) (length_words l.head.length) ++ ends_text l

unfoldable pub ground_text : ℕ → Lane → List ℕ
ground_text right l = rectangle (codes "lane") (l.track.0 % 2) (record { x = 0; y = l.top; width = right; height = rows_high l + 32 })

unfoldable pub lane_text : ℕ → ℕ → List LegendType → Lane → List ℕ
lane_text from right kinds l = ground_text right l ++ load_text from right l ++ head_text l ++ flat_map (bar_text from kinds l) l.bars
