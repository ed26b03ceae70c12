use Rattle.std.proofs.Common.{◌≡◌}
use Rattle.std.specs.List.{range_with_len}
use Rattle.shunt_make.specs.defs.Draws.{after, drawn_for}
use Rattle.shunt_make.specs.defs.Made.{kind_of}
use Rattle.shunt_make.proofs.trains.made_kinds.Given as goal

abbrev pub invariant-loop-place : goal.invariant-loop-place
invariant-loop-place l = record {
  made : l.kinds.items ≡ drawn_for kind_of l.initial.draws.state (range_with_len 0 l._place);
  state : l.draws.state ≡ after l.initial.draws.state l._place;
}
