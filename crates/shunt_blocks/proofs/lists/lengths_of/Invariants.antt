use Rattle.std.proofs.Common.{◌≡◌, map, take}
use Rattle.shunt_blocks.proofs.lists.lengths_of.Given as goal

abbrev pub invariant-loop-track : goal.invariant-loop-track
invariant-loop-track l = l.lengths.items ≡ map (λ t. t.length) (take l.track-index l.station.tracks)
