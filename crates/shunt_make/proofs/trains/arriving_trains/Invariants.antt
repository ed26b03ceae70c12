use Rattle.std.proofs.Common.{◌≡◌, ◌*◌, min, map}
use Rattle.std.specs.List.{range_with_len}
use Rattle.shunt_make.specs.defs.Draws.{after}
use Rattle.shunt_make.specs.defs.Made.{arriving_of}
use Rattle.shunt_make.proofs.trains.arriving_trains.Given as goal

abbrev pub invariant-loop-i : goal.invariant-loop-i
invariant-loop-i l = record {
  made : l.trains.items ≡ map (arriving_of l.initial.draws.state l.units) (range_with_len 0 l.i);
  state : l.draws.state ≡ after l.initial.draws.state (min (2 * l.i) l.units);
}
