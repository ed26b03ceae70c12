-- Duties that are dealt out.
use Rattle.std.specs.Prelude.{◌+◌, List, [], ◌∷◌}
use Rattle.shunt_tracks.specs.declared.run.Event.{Event}
use Rattle.shunt_drivers.specs.declared.records.Duty.{Duty}
use Rattle.shunt_drivers.specs.declared.shares.MoveShare.{MoveShare}
use Rattle.shunt_drivers.specs.defs.RosterFormat.{duty_by}

-- the duties of these moves, each with its share's driver, counted from 1
abbrev pub dealt : List Event → List MoveShare → List Duty
dealt [] shares = []
dealt (e ∷ moves) [] = []
dealt (e ∷ moves) (s ∷ shares) = duty_by (s.driver + 1) e ∷ dealt moves shares
