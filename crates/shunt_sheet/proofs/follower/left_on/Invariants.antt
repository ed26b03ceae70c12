use Rattle.std.proofs.Common.{◌≡◌, ◌+◌, map, drop}
use Rattle.shunt_stays.specs.defs.Run.{blocks_on}
use Rattle.shunt_sheet.specs.defs.Tracks.{blocks_of}
use Rattle.shunt_sheet.proofs.follower.left_on.Given as goal

abbrev pub invariant-loop-track : goal.invariant-loop-track
invariant-loop-track l = l.left + blocks_on (map (λ w. blocks_of w.items) (drop l.track-index l.tracks)) ≡ blocks_on (map (λ w. blocks_of w.items) l.tracks)
