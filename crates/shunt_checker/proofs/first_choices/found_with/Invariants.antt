use Rattle.shunt_checker.specs.defs.Firsts.{HoldsNotBelow}
use Rattle.shunt_checker.specs.defs.Searches.{IsOneWith}
use Rattle.shunt_checker.proofs.Searches.{place_from}
use Rattle.shunt_checker.proofs.first_choices.found_with.Given as goal

abbrev pub invariant-loop-q : goal.invariant-loop-q
invariant-loop-q g l = HoldsNotBelow (IsOneWith l.fn.instance l.fn.covered (g.S.Sought.holds l.fn.sought l.fn.instance) l.fn.u l.fn.n l.fn.dep) place_from l.q
