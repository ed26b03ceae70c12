use Rattle.shunt_checker.specs.defs.Firsts.{HoldsNotBelow}
use Rattle.shunt_checker.specs.defs.Searches.{IsFreeOne}
use Rattle.shunt_checker.proofs.Searches.{unit_of}
use Rattle.shunt_checker.proofs.first_choices.first_found.Given as goal

abbrev pub invariant-loop-u : goal.invariant-loop-u
invariant-loop-u g l = HoldsNotBelow (IsFreeOne l.fn.instance l.fn.covered (g.S.Sought.holds l.fn.sought l.fn.instance)) (unit_of l.fn.instance) l.u
