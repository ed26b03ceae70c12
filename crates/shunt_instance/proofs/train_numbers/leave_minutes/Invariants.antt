use Rattle.std.proofs.Common.{◌≡◌, map, take}
use Rattle.shunt_instance.specs.defs.Instance.{leaves_of}
use Rattle.shunt_instance.proofs.train_numbers.leave_minutes.Given as goal

abbrev pub invariant-loop-position : goal.invariant-loop-position
invariant-loop-position l = l.leaves.items ≡ map (leaves_of l.depart) (take l.position-index l.positions)
