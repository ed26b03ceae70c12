use Rattle.shunt_checker.specs.defs.Firsts.{HoldsNotBelow}
use Rattle.shunt_checker.specs.defs.Lights.{IsLightParked}
use Rattle.shunt_checker.proofs.Parks.{track_of}
use Rattle.shunt_checker.proofs.light_shapes.light_parked.Given as goal

abbrev pub invariant-loop-t : goal.invariant-loop-t
invariant-loop-t l = HoldsNotBelow (IsLightParked l.fn.version l.fn.instance l.fn.prices l.fn.shape l.fn.sum) track_of l.t
