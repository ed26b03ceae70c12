-- The zones that moves pass.
use Rattle.std.specs.Prelude.{ℕ, ◌==◌, Bool, false, ◌&&◌, List, map, filter}
use Rattle.std.specs.List.{list_any}
use Rattle.shunt_base.specs.declared.ids.TrackId.{TrackId}
use Rattle.shunt_base.specs.declared.ids.Side.{Side}
use Rattle.shunt_base.specs.defs.Sides.{same_side}
use Rattle.shunt_instance.specs.declared.records.Origin.{Origin}
use Rattle.shunt_instance.specs.declared.records.Origin.TheVariants as origin
use Rattle.shunt_instance.specs.defs.Instance.{Night}
use Rattle.shunt_blocks.specs.declared.records.Block.{Block}
use Rattle.shunt_tracks.specs.declared.run.Event.{Event}
use Rattle.shunt_zones.specs.declared.records.Over.{Over}
use Rattle.shunt_zones.specs.declared.records.Zones.{Zones}
use Rattle.shunt_zones.specs.declared.passages.Passing.{Passing}
use Rattle.shunt_zones.specs.defs.Moves.{train_of, moves_of}

-- whether a zone lies over the way between a train's platform and a side of a track
abbrev pub lies_on : Origin → TrackId → Side → Over → Bool
lies_on (origin.Platform p) track side o = o.platform.0 == p.0 && o.track.0 == track.0 && same_side o.side side
lies_on (origin.Track t) track side o = false

-- the zones that a move passes: those over its train's platform, its track and its side
abbrev pub zones_of : Night → Zones → Event → List ℕ
zones_of night zones e = map (λ o. o.zone) (filter (lies_on (train_of night e.key).origin e.track e.side) zones.over)

-- whether a zone is one of these
abbrev pub has_zone : List ℕ → ℕ → Bool
has_zone own zone = list_any (λ z. z == zone) own

-- a move with the zones that it passes
abbrev pub passing_of : Night → Zones → Event → Passing
passing_of night zones e = record { event = e; zones = zones_of night zones e }

-- the moves of these blocks in key order, each with the zones that it passes
unfoldable pub passings_of : Night → Zones → List Block → List Passing
passings_of night zones blocks = map (passing_of night zones) (moves_of night blocks)
