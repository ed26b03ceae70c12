use Rattle.std.proofs.Common.{◌≡◌, map, take}
use Rattle.shunt_stays.specs.defs.Run.{empty_tracks}
use Rattle.shunt_sheet.specs.defs.Tracks.{blocks_of}
use Rattle.shunt_sheet.proofs.follower.empty.Given as goal

abbrev pub invariant-loop-length : goal.invariant-loop-length
invariant-loop-length l = map (λ w. blocks_of w.items) l.tracks.items ≡ empty_tracks (take l._length-index l.lengths)
