-- The JSON of a plan.
use Rattle.std.specs.Prelude.{ℕ, ◌<◌, ◌+◌, ◌*◌, List, [], ◌++◌, length, map, sum_by, unwrap_or, codes}
use Rattle.serde_json.specs.Data.{Data, number, unsigned, string, array, object, member, no_members}
use Rattle.serde_json.specs.View.{items_of}
use Rattle.serde_json.specs.Written.{compact_text}
use Rattle.shunt_base.specs.defs.Spelling.{minute_text}
use Rattle.shunt_stays.specs.defs.Run.{run_of}
use Rattle.shunt_rows.specs.defs.Written.{side_text, move_word}
use Rattle.shunt_instance.specs.defs.Instance.{Night}
use Rattle.shunt_blocks.specs.declared.records.Block.{Block}
use Rattle.shunt_blocks.specs.defs.Ways.{way_in, way_out}
use Rattle.shunt_blocks.specs.defs.Lists.{track_lengths, stays_of, total_cost}
use Rattle.shunt_tracks.specs.declared.run.Step.{Step}
use Rattle.shunt_tracks.specs.declared.run.Ran.{Ran}
use Rattle.shunt_tracks.specs.declared.run.Ran.TheVariants as ran
use Rattle.shunt_tracks.specs.defs.Answer.{answer}
use Rattle.shunt_plan.specs.defs.PlanRows.{track_name}
use Rattle.shunt_report.specs.defs.PlanTexts.{unparked_in, splits_in, couples_in}

-- what the ways in and out of a block cost, of which an absent one counts 0
abbrev pub ways_cost : Night → Block → ℕ
ways_cost night b = unwrap_or (way_in night b) 0 + unwrap_or (way_out night b) 0

-- what the ways in and out of the blocks cost together; one that isn't parked has none
abbrev pub route_sum : Night → List Block → ℕ
route_sum night blocks = sum_by (ways_cost night) blocks

-- a number as JSON
abbrev pub a_number : ℕ → Data
a_number n = number (unsigned n)

-- what blocks cost: the couples, the ways, the splits, all together, and those that aren't parked
abbrev pub cost_value : Night → List Block → Data
cost_value night blocks = object
    (member (codes "couple") (a_number (couples_in blocks * night.station.couple))
    (member (codes "route") (a_number (route_sum night blocks))
    (member (codes "split") (a_number (splits_in blocks * night.station.split))
    (member (codes "total") (a_number (total_cost night blocks))
    (member (codes "unparked") (a_number (unparked_in blocks * night.station.unparked))
    no_members)))))

-- an event: its block, its track's load just after it, its minute, whether it enters or leaves, the side and the track
abbrev pub event_value : Night → Step → Data
event_value night s = object
    (member (codes "block") (a_number s.event.key.id)
    (member (codes "load") (a_number s.load)
    (member (codes "minute") (string (minute_text s.event.key.minute))
    (member (codes "move") (string (move_word s.event.key.enters))
    (member (codes "side") (string (side_text s.event.side))
    (member (codes "track") (string (track_name night.station s.event.track))
    no_members))))))

-- its minute is one of two days, and its track the station's
pub record IsStepOf (night : Night) (s : Step) : Type 0 where
  pub minute : s.event.key.minute < 2880
  pub track : s.event.track.0 < length night.station.tracks

-- the events of a run that went through
abbrev pub steps_of : Ran → List Step
steps_of (ran.Through steps) = steps
steps_of (ran.Blocked e) = []
steps_of (ran.Over e load) = []

-- the events of blocks in key order, each with its track's load just after it
abbrev pub steps_in : Night → List Block → List Step
steps_in night blocks = steps_of (answer (run_of (track_lengths night.station) (stays_of night blocks)))

-- blocks of a night with these events: how many there are, what they cost, the events and the station's name
abbrev pub value_with : Night → List Block → List Step → Data
value_with night blocks steps = object
    (member (codes "blocks") (a_number (length blocks))
    (member (codes "cost") (cost_value night blocks)
    (member (codes "events") (array (items_of (map (event_value night) steps)))
    (member (codes "station") (string night.station.name)
    no_members))))

-- blocks of a night with their own events
abbrev pub blocks_value : Night → List Block → Data
blocks_value night blocks = value_with night blocks (steps_in night blocks)

-- the line: the value without spaces
unfoldable pub json_of : Night → List Block → List ℕ
json_of night blocks = compact_text (blocks_value night blocks) ++ codes "\n"
