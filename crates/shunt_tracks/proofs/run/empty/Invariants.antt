use Rattle.std.proofs.Common.{◌≡◌, map, take}
use Rattle.shunt_stays.specs.defs.Run.{empty_tracks}
use Rattle.shunt_tracks.specs.defs.Blocks.{blocks_of}
use Rattle.shunt_tracks.proofs.run.empty.Given as goal

abbrev pub invariant-loop-length : goal.invariant-loop-length
invariant-loop-length l = map (λ w. blocks_of w.items) l.tracks.items ≡ empty_tracks (take l._length-index l.lengths)
