-- When moves run.
use Rattle.std.specs.Prelude.{ℕ, ◌+◌, ◌==◌, Bool, false, ◌&&◌, List, map, find, option_map, unwrap_or}
use Rattle.shunt_base.specs.declared.ids.TrackId.{TrackId}
use Rattle.shunt_base.specs.declared.ids.Side.{Side}
use Rattle.shunt_base.specs.defs.Sides.{same_side}
use Rattle.shunt_instance.specs.declared.records.Origin.{Origin}
use Rattle.shunt_instance.specs.declared.records.Origin.TheVariants as origin
use Rattle.shunt_instance.specs.defs.Instance.{Night}
use Rattle.shunt_tracks.specs.declared.run.Event.{Event}
use Rattle.shunt_zones.specs.defs.Moves.{train_of}
use Rattle.shunt_drivers.specs.declared.records.Takes.{Takes}
use Rattle.shunt_drivers.specs.declared.records.Crew.{Crew}
use Rattle.shunt_drivers.specs.declared.shares.MoveSpan.{MoveSpan}

-- whether minutes are those between a train's platform and a side of a track
abbrev pub is_between : Origin → TrackId → Side → Takes → Bool
is_between (origin.Platform p) track side t = t.platform.0 == p.0 && t.track.0 == track.0 && same_side t.side side
is_between (origin.Track k) track side t = false

-- how many minutes a driver is with a move: those of its platform, track and side, else those of every other move
abbrev pub minutes_of : Night → Crew → Event → ℕ
minutes_of night crew e = unwrap_or (option_map (λ t. t.minutes) (find (is_between (train_of night e.key).origin e.track e.side) crew.takes)) crew.other

-- a move runs from its minute on, up to the minute that is that many minutes later, which isn't counted
abbrev pub span_of : Night → Crew → Event → MoveSpan
span_of night crew e = record { start = e.key.minute; end = e.key.minute + minutes_of night crew e }

-- when these moves run, in their order
abbrev pub spans_of : Night → Crew → List Event → List MoveSpan
spans_of night crew moves = map (span_of night crew) moves
