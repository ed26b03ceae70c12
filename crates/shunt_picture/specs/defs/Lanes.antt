-- What the lane of a track shows.
use Rattle.std.specs.Prelude.{◌≡◌, ℕ, ◌+◌, ◌-◌, ◌*◌, ◌<◌, ◌≤◌, min, max, All, AllPairs, IsPermutation, List, [], ◌∷◌, map, length, fold, slice_get, Some}
use Rattle.std.specs.List.Sorted.{IsSortedByKey}
use Rattle.shunt_base.specs.defs.Keys.{key_cmp}
use Rattle.shunt_instance.specs.defs.Instance.{Night}
use Rattle.shunt_blocks.specs.declared.records.Block.{Block}
use Rattle.shunt_audit.specs.declared.types.Finding.{Finding}
use Rattle.shunt_picture.specs.declared.track_stays.Standing.{Standing}
use Rattle.shunt_picture.specs.declared.rows.StaySeat.{StaySeat}
use Rattle.shunt_picture.specs.declared.records.Bar.{Bar}
use Rattle.shunt_picture.specs.declared.records.Lane.{Lane}
use Rattle.shunt_picture.specs.defs.Svg.{wide}
use Rattle.shunt_picture.specs.defs.Words.{faults_words}
use Rattle.shunt_picture.specs.defs.Told.{told_of}
use Rattle.shunt_picture.specs.defs.Levels.{levels_of}
use Rattle.shunt_picture.specs.defs.Rows.{standings_on, IsBeyond, IsRowAmong}

-- the bar of a stay in its row
abbrev pub bar_of : Night → List Finding → StaySeat → Bar
bar_of night findings s = record { block = s.standing.block; stay = s.standing.stay; row = s.row; told = told_of night findings s.standing.block }

-- the stay that a bar shows
abbrev pub standing_of : Bar → Standing
standing_of b = record { block = b.block; stay = b.stay }

-- two bars of one row don't stand at one time: the first one ends before the second begins
abbrev pub AreBarsApart : Bar → Bar → Type 0
AreBarsApart b c = b.row ≡ c.row → b.stay.leave.minute ≤ c.stay.enter.minute

-- how far a minute is from the first one of the picture, in pixels
abbrev pub inset : ℕ → ℕ → ℕ
inset from minute = 2 * (minute - from)

-- how far into a bar its marks go, in pixels
abbrev pub marks_end : List ℕ → ℕ
marks_end [] = 0
marks_end (k ∷ faults) = 9 + wide 7 (faults_words (k ∷ faults))

-- the marks of a bar end before the next bar of its row begins
abbrev pub AreMarksApart : ℕ → Bar → Bar → Type 0
AreMarksApart from b c = b.row ≡ c.row → inset from b.stay.enter.minute + marks_end b.told.faults ≤ inset from c.stay.enter.minute

-- a bar that begins while another one stands has a row nearer the end of the track by which its block enters: it is in front of the
-- other block there, and stays so while both stand
abbrev pub ShowOrder : Bar → Bar → Type 0
ShowOrder b c = c.stay.enter.minute < b.stay.leave.minute → IsBeyond c.stay.side_in c.row b.row

-- the uppermost of these rows, or 900
abbrev pub first_of : List ℕ → ℕ
first_of rows = fold min 900 rows

-- the lowest of them, or 0
abbrev pub last_of : List ℕ → ℕ
last_of rows = fold max 0 rows

-- the rows of these bars
abbrev pub rows_of : List Bar → List ℕ
rows_of bars = map (λ b. b.row) bars

-- the lane of a track in a picture from one minute to another:
-- each stay on the track has one bar, and there is no other; bars stand by the keys of their entries;
-- each bar tells of its block, with its findings; no two of a row overlap, nor do the marks of one run into the next;
-- where there is no finding, rows show who stands in front of whom; n bars have rows next to 400, and the lane goes from the uppermost
-- row to the lowest; and the load is that of the stays
pub record IsLaneOf (night : Night) (findings : List Finding) (blocks : List Block) (from to : ℕ) (l : Lane) : Type 0 where
  pub head : slice_get night.station.tracks l.track.0 ≡ Some l.head
  pub bars : IsPermutation (standings_on night l.track blocks) (map standing_of l.bars)
  pub by_entry : IsSortedByKey (λ b. b.stay.enter) key_cmp l.bars
  pub told : All (λ b. b.told ≡ told_of night findings b.block) l.bars
  pub apart : AllPairs AreBarsApart l.bars
  pub marks : AllPairs (AreMarksApart from) l.bars
  pub order : findings ≡ [] → AllPairs ShowOrder l.bars
  pub rows : All (λ b. (l.first ≤ b.row) × (b.row ≤ l.last)) l.bars
  pub among : All (λ b. IsRowAmong (length l.bars) b.row) l.bars
  pub first : l.first ≡ first_of (rows_of l.bars)
  pub last : l.last ≡ last_of (rows_of l.bars)
  pub levels : l.levels ≡ levels_of (map (λ b. b.stay) l.bars) from (to - from)
