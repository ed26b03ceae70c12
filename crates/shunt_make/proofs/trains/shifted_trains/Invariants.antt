use Rattle.std.proofs.Common.{◌≡◌}
use Rattle.std.specs.List.{range_with_len}
use Rattle.shunt_make.specs.defs.Draws.{after, drawn_for}
use Rattle.shunt_make.specs.defs.Made.{departing_of}
use Rattle.shunt_make.proofs.trains.shifted_trains.Given as goal

abbrev pub invariant-loop-i : goal.invariant-loop-i
invariant-loop-i l = record {
  made : l.trains.items ≡ drawn_for (departing_of l.arrive l.shift) l.initial.draws.state (range_with_len 0 l.i);
  state : l.draws.state ≡ after l.initial.draws.state l.i;
}
