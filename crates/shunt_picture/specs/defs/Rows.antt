-- The stays on a track, and the rows in which they stand.
use Rattle.std.specs.Prelude.{◌≡◌, ℕ, ◌+◌, ◌<◌, ◌≤◌, ◌==◌, max, Bool, false, List, Option, Some, None, if◌then◌else◌}
use Rattle.std.specs.List.{filter_map}
use Rattle.shunt_base.specs.declared.ids.Side.{Side}
use Rattle.shunt_base.specs.declared.ids.Side.TheVariants.{A, B}
use Rattle.shunt_base.specs.declared.ids.TrackId.{TrackId}
use Rattle.shunt_base.specs.declared.keys.Stay.{Stay}
use Rattle.shunt_instance.specs.defs.Instance.{Night}
use Rattle.shunt_blocks.specs.declared.records.Block.{Block}
use Rattle.shunt_blocks.specs.defs.Stays.{stay_of}
use Rattle.shunt_picture.specs.declared.track_stays.Standing.{Standing}
use Rattle.shunt_picture.specs.declared.rows.StaySeat.{StaySeat}

-- a block with its stay, where that is on a track
abbrev pub standing_with : TrackId → Block → Option Stay → Option Standing
standing_with track b None = None
standing_with track b (Some s) = if s.track.0 == track.0 then Some (record { block = b; stay = s }) else None

abbrev pub standing_on : Night → TrackId → Block → Option Standing
standing_on night track b = standing_with track b (stay_of night b)

-- the stays on a track, in the order of the blocks
abbrev pub standings_on : Night → TrackId → List Block → List Standing
standings_on night track blocks = filter_map (standing_on night track) blocks

-- two that have one row don't stand at one time: the first leaves before the second enters
abbrev pub AreRowsApart : StaySeat → StaySeat → Type 0
AreRowsApart s t = s.row ≡ t.row → s.standing.stay.leave.minute ≤ t.standing.stay.enter.minute

-- of two that have one row the first enters first, and where rows show no order there are 70 minutes more for its marks, from the first
-- minute of the picture on
pub record HaveRoom (from : ℕ) (is_ordered : Bool) (s t : StaySeat) : Type 0 where
  pub first : s.row ≡ t.row → s.standing.stay.enter.minute ≤ t.standing.stay.enter.minute
  pub marks : is_ordered ≡ false → s.row ≡ t.row → max s.standing.stay.enter.minute from + 70 ≤ t.standing.stay.enter.minute

-- a row is nearer an end than another: rows are counted from the A end
abbrev pub IsBeyond : Side → ℕ → ℕ → Type 0
IsBeyond A row other = row < other
IsBeyond B row other = other < row

-- who enters while another one stands has a row nearer the end by which it enters, so that it stands in front of the other there
abbrev pub ShowsOrder : StaySeat → StaySeat → Type 0
ShowsOrder s t = t.standing.stay.enter.minute < s.standing.stay.leave.minute → IsBeyond t.standing.stay.side_in t.row s.row

-- the first of n stays has row 400, and each later one a row next to those before it
pub record IsRowAmong (n row : ℕ) : Type 0 where
  pub from : 401 ≤ row + n
  pub to : row < 400 + n
