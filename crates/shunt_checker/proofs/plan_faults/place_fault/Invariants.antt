use Rattle.shunt_checker.specs.defs.Firsts.{HoldsNotBelow}
use Rattle.shunt_checker.specs.defs.Stops.{IsPlaceFault}
use Rattle.shunt_checker.proofs.plan_faults.place_fault.Given as goal

abbrev pub invariant-loop-v : goal.invariant-loop-v
invariant-loop-v l = HoldsNotBelow (IsPlaceFault l.fn.instance l.fn.blocks) (λ x. x) l.v
