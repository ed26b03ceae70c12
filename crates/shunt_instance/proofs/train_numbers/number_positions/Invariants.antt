use Rattle.std.proofs.Common.{◌≡◌, ◌++◌, drop}
use Rattle.shunt_instance.specs.defs.Instance.{numbered_through, make_position}
use Rattle.shunt_instance.proofs.train_numbers.number_positions.Given as goal

abbrev pub invariant-loop-i : goal.invariant-loop-i
invariant-loop-i l = l.positions.items ++ numbered_through make_position l.i (drop l.i l.trains) ≡ numbered_through make_position 0 l.trains
