-- The moves of a list of blocks.
use Rattle.std.specs.Prelude.{◌≡◌, ℕ, ◌<◌, ◌==◌, Bool, not, ◌&&◌, ◌||◌, List, map, filter, length, if◌then◌else◌}
use Rattle.std.specs.List.{list_any}
use Rattle.shunt_base.specs.declared.keys.EventKey.{EventKey}
use Rattle.shunt_stays.specs.defs.Events.{in_order}
use Rattle.shunt_instance.specs.declared.records.Train.{Train}
use Rattle.shunt_instance.specs.defs.Words.{is_standing, train_at}
use Rattle.shunt_instance.specs.defs.Instance.{Night}
use Rattle.shunt_blocks.specs.declared.records.Block.{Block}
use Rattle.shunt_blocks.specs.defs.Shapes.{shape_of}
use Rattle.shunt_blocks.specs.defs.Ways.{has_placed}
use Rattle.shunt_blocks.specs.defs.Lists.{stays_of}
use Rattle.shunt_tracks.specs.declared.run.Event.{Event}
use Rattle.shunt_tracks.specs.defs.Answer.{event_of}

-- the entries and leaves of the blocks' stays in key order
unfoldable pub events_of : Night → List Block → List Event
events_of night blocks = map event_of (in_order (stays_of night blocks))

-- the trains of which a key names one: the arriving ones for an entry, the departing ones for a leave
abbrev pub trains_of : Night → EventKey → List Train
trains_of night key = if key.enters then night.arrive else night.depart

-- the train that a move's block comes from or goes to
abbrev pub train_of : Night → EventKey → Train
train_of night key = train_at (trains_of night key) key.train

-- whether one of the blocks with an id has a unit that has come already
abbrev pub names_placed : Night → List Block → ℕ → Bool
names_placed night blocks id = list_any (λ b. b.id == id && has_placed night (shape_of b)) blocks

-- whether it is an entry that has been: of a standing train, or of a block with a unit that has come already
abbrev pub has_been : Night → List Block → EventKey → Bool
has_been night blocks key = key.enters && (is_standing (train_of night key) || names_placed night blocks key.id)

-- the events but the entries that have been
unfoldable pub moves_of : Night → List Block → List Event
moves_of night blocks = filter (λ e. not (has_been night blocks e.key)) (events_of night blocks)

-- its train and its track are the night's, and its minute is its train's, one of two days
pub record IsMoveOf (night : Night) (e : Event) : Type 0 where
  pub train : e.key.train < length (trains_of night e.key)
  pub own : e.key.minute ≡ (train_of night e.key).minute
  pub minute : e.key.minute < 2880
  pub track : e.track.0 < length night.station.tracks
