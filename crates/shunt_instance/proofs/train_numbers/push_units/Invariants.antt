use Rattle.std.proofs.Common.{◌≡◌, ◌+◌, ◌++◌, drop}
use Rattle.shunt_instance.specs.defs.Instance.{numbered_from, make_unit}
use Rattle.shunt_instance.proofs.train_numbers.push_units.Given as goal

abbrev pub invariant-loop-i : goal.invariant-loop-i
invariant-loop-i l = l.units.items ++ numbered_from make_unit l.train.0 (l.i + 1) (drop l.i l.kinds) ≡ l.initial.units.items ++ numbered_from make_unit l.train.0 1 l.kinds
