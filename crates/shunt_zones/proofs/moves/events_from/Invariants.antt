use Rattle.std.proofs.Common.{◌≡◌, map, take}
use Rattle.shunt_tracks.specs.defs.Answer.{event_of as told}
use Rattle.shunt_tracks.specs.defs.Dues.{move_of}
use Rattle.shunt_zones.proofs.moves.events_from.Given as goal

abbrev pub invariant-loop-due : goal.invariant-loop-due
invariant-loop-due l = l.events.items ≡ map told (map move_of (take l.due-index l.dues))
