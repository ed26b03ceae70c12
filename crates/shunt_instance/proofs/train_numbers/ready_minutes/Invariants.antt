use Rattle.std.proofs.Common.{◌≡◌, map, take}
use Rattle.shunt_instance.specs.defs.Instance.{ready_of}
use Rattle.shunt_instance.proofs.train_numbers.ready_minutes.Given as goal

abbrev pub invariant-loop-unit : goal.invariant-loop-unit
invariant-loop-unit l = l.ready.items ≡ map (ready_of l.station l.arrive) (take l.unit-index l.units)
