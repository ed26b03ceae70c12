use Rattle.shunt_checker.specs.defs.Firsts.{HoldsNotBelow}
use Rattle.shunt_checker.specs.defs.Breaks.{IsBreak}
use Rattle.shunt_checker.proofs.cases.first_break.Given as goal

abbrev pub invariant-loop-k : goal.invariant-loop-k
invariant-loop-k l = HoldsNotBelow (IsBreak l.fn.version l.fn.instance l.fn.covered l.fn.cases) (λ b. b.case) l.k
