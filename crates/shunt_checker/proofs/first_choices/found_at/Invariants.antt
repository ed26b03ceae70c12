use Rattle.shunt_checker.specs.defs.Firsts.{HoldsNotBelow}
use Rattle.shunt_checker.specs.defs.Searches.{IsOneAt}
use Rattle.shunt_checker.proofs.Searches.{units_of}
use Rattle.shunt_checker.proofs.first_choices.found_at.Given as goal

abbrev pub invariant-loop-n : goal.invariant-loop-n
invariant-loop-n g l = HoldsNotBelow (IsOneAt l.fn.instance l.fn.covered (g.S.Sought.holds l.fn.sought l.fn.instance) l.fn.u) units_of l.n
