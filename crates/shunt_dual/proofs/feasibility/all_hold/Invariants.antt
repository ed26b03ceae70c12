use Rattle.std.proofs.Common.{ℕ, ◌<◌}
use Rattle.shunt_prices.specs.defs.Limits.{case_at}
use Rattle.shunt_dual.specs.defs.Weighed.{CaseHolds}
use Rattle.shunt_dual.proofs.feasibility.all_hold.Given as goal

abbrev pub invariant-loop-k : goal.invariant-loop-k
invariant-loop-k l = (j : ℕ) → j < l.k → CaseHolds l.asked l.instance l.path.covered (case_at l.cases j)
