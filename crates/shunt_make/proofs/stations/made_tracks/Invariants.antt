use Rattle.std.proofs.Common.{◌≡◌}
use Rattle.std.specs.List.{range_with_len}
use Rattle.shunt_make.specs.defs.Draws.{after, drawn_for}
use Rattle.shunt_make.specs.defs.Made.{track_of}
use Rattle.shunt_make.proofs.stations.made_tracks.Given as goal

abbrev pub invariant-loop-i : goal.invariant-loop-i
invariant-loop-i l = record {
  made : l.tracks.items ≡ drawn_for track_of l.initial.draws.state (range_with_len 1 l.i);
  state : l.draws.state ≡ after l.initial.draws.state l.i;
}
