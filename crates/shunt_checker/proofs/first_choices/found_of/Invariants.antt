use Rattle.shunt_checker.specs.defs.Firsts.{HoldsNotBelow}
use Rattle.shunt_checker.specs.defs.Searches.{IsOneOf}
use Rattle.shunt_checker.proofs.Searches.{train_of}
use Rattle.shunt_checker.proofs.first_choices.found_of.Given as goal

abbrev pub invariant-loop-dep : goal.invariant-loop-dep
invariant-loop-dep g l = HoldsNotBelow (IsOneOf l.fn.instance l.fn.covered (g.S.Sought.holds l.fn.sought l.fn.instance) l.fn.u l.fn.n) train_of l.dep
