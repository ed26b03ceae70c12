use Rattle.shunt_checker.specs.defs.Firsts.{HoldsNotBelow}
use Rattle.shunt_checker.specs.defs.Stops.{IsUnitFault}
use Rattle.shunt_checker.proofs.plan_faults.unit_fault.Given as goal

abbrev pub invariant-loop-u : goal.invariant-loop-u
invariant-loop-u l = HoldsNotBelow (IsUnitFault l.fn.instance l.fn.blocks) (λ x. x) l.u
