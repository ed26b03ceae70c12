use Rattle.std.proofs.Common.{◌≡◌, ◌++◌, drop}
use Rattle.shunt_instance.specs.defs.Instance.{numbered_through, make_unit}
use Rattle.shunt_instance.proofs.train_numbers.number_units.Given as goal

abbrev pub invariant-loop-i : goal.invariant-loop-i
invariant-loop-i l = l.units.items ++ numbered_through make_unit l.i (drop l.i l.trains) ≡ numbered_through make_unit 0 l.trains
