-- Where the parts of a picture stand.
use Rattle.std.specs.Prelude.{◌≡◌, All, ℕ, ◌+◌, ◌-◌, ◌*◌, ◌/◌, ◌<◌, ◌≤◌, min, max, List, [], ◌∷◌, length, fold, slice_index, slice_index_or}
use Rattle.shunt_picture.specs.declared.records.LegendType.{LegendType}
use Rattle.shunt_picture.specs.declared.records.TrainMark.{TrainMark}
use Rattle.shunt_picture.specs.declared.records.Loose.{Loose}
use Rattle.shunt_picture.specs.declared.records.Lane.{Lane}
use Rattle.shunt_picture.specs.declared.records.Picture.{Picture}
use Rattle.shunt_picture.specs.defs.Svg.{wide}
use Rattle.shunt_picture.specs.defs.Words.{x_of}
use Rattle.shunt_picture.specs.defs.LaneTexts.{rows_high}
use Rattle.shunt_picture.specs.defs.PictureTexts.{right_of, title_words, bars_note, marks_note}

-- how much room the entry of a type takes, with its colour, and that of a loose block
abbrev pub kind_width : LegendType → ℕ
kind_width k = 38 + wide 7 k.words

abbrev pub loose_width : Loose → ℕ
loose_width l = 29 + wide 7 l.marks + wide 7 l.words

-- how many entries for which there is so much room a line has
abbrev pub columns_of : ℕ → ℕ → ℕ → ℕ
columns_of from to room = max ((144 + 120 * (to - from)) / max room 1) 1

-- how high that many entries are
abbrev pub lines_high : ℕ → ℕ → ℕ
lines_high entries columns = 16 * (min entries 4096 / max columns 1 + 1)

-- how high these rows of trains are together
abbrev pub trains_high : List ℕ → ℕ
trains_high rows = 12 * (fold max 0 rows + 1)

-- how high a lane is, with the line of its load
abbrev pub lane_high : Lane → ℕ
lane_high l = rows_high l + 34

-- lanes one below the other, from one place down to another
abbrev pub AreStacked : ℕ → List Lane → ℕ → Type 0
AreStacked top [] bottom = top ≡ bottom
AreStacked top (l ∷ lanes) bottom = (l.top ≡ top) × AreStacked (top + lane_high l) lanes bottom

-- how wide a train is drawn, with its words and marks
abbrev pub width_of : TrainMark → ℕ
width_of t = 10 + wide 7 t.words + wide 7 t.marks

-- where they end
abbrev pub end_of : ℕ → TrainMark → ℕ
end_of from t = x_of from t.minute + width_of t

-- the words of a train end before those of another begin
abbrev pub IsLeftOf : ℕ → TrainMark → TrainMark → Type 0
IsLeftOf from t u = end_of from t ≤ x_of from u.minute

-- a row for each train, and no more rows than trains; of two trains in one row the words of the first end before those of the second
-- begin
pub record AreTrainRows (from : ℕ) (trains : List TrainMark) (rows : List ℕ) : Type 0 where
  pub count : length rows ≡ length trains
  pub low : All (λ r. r < length trains) rows
  pub apart : (i j : ℕ) (d : TrainMark) → i < j → j < length trains → slice_index rows i ≡ slice_index rows j
      → IsLeftOf from (slice_index_or trains i d) (slice_index_or trains j d)

-- from top to bottom: the legend, the lines of arriving and of departing trains, the hours, the lanes, and the list of blocks without a
-- stay; each begins where the one before it ends
pub record IsLaidOut (p : Picture) : Type 0 where
  pub kind_columns : p.kind_columns ≡ columns_of p.from p.to p.kind_room
  pub loose_columns : p.loose_columns ≡ columns_of p.from p.to p.loose_room
  pub arrive_rows : AreTrainRows p.from p.arrive p.arrive_rows
  pub depart_rows : AreTrainRows p.from p.depart p.depart_rows
  pub arrive_top : p.arrive_top ≡ 64 + lines_high (length p.kinds) p.kind_columns
  pub depart_top : p.depart_top ≡ p.arrive_top + trains_high p.arrive_rows + 8
  pub lanes_top : p.lanes_top ≡ p.depart_top + trains_high p.depart_rows + 22
  pub lanes : AreStacked p.lanes_top p.lanes p.loose_top
  pub height : p.height ≡ p.loose_top + lines_high (length p.loose) p.loose_columns + 40

-- nothing is cut off: each entry of a list has room for its words, and trains, lists, title and notes end within the picture
pub record IsInside (p : Picture) : Type 0 where
  pub hours : right_of p.from p.to ≤ p.width
  pub arrive : All (λ t. end_of p.from t ≤ p.width) p.arrive
  pub depart : All (λ t. end_of p.from t ≤ p.width) p.depart
  pub kinds : All (λ k. kind_width k ≤ p.kind_room) p.kinds
  pub looses : All (λ l. loose_width l ≤ p.loose_room) p.loose
  pub kind_lines : 6 + p.kind_room * p.kind_columns ≤ p.width
  pub loose_lines : 6 + p.loose_room * p.loose_columns ≤ p.width
  pub title : 6 + wide 9 (title_words p.station p.findings p.cost p.stated) ≤ p.width
  pub notes : (6 + wide 6 bars_note ≤ p.width) × (6 + wide 6 marks_note ≤ p.width)
