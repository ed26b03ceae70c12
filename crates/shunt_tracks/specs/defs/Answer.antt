-- What is answered of a run.
use Rattle.std.specs.Prelude.{ℕ, map, Result, Ok, Err}
use Rattle.shunt_stays.specs.defs.Events.{Move}
use Rattle.shunt_stays.specs.defs.Run.{Through, Stop}
use Rattle.shunt_stays.specs.defs.Run.Stop.{Blocked, Over}
use Rattle.shunt_tracks.specs.declared.run.Event.{Event}
use Rattle.shunt_tracks.specs.declared.run.Step.{Step}
use Rattle.shunt_tracks.specs.declared.run.Ran.{Ran}
use Rattle.shunt_tracks.specs.declared.run.Ran.TheVariants as ran

-- a move without its block's length
abbrev pub event_of : Move → Event
event_of m = record { key = m.key; track = m.track; side = m.side }

-- a move with its track's load just after it
abbrev pub step_of : Move × ℕ → Step
step_of (m, n) = record { event = event_of m; load = n }

-- each event with its track's load just after it, or the first that can't be done
abbrev pub answer : Result Through Stop → Ran
answer (Ok t) = ran.Through (map step_of t.steps)
answer (Err (Blocked m)) = ran.Blocked (event_of m)
answer (Err (Over m n)) = ran.Over (event_of m) n
