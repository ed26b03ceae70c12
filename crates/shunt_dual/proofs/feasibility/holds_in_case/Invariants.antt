use Rattle.std.proofs.Common.{ℕ, ◌<◌}
use Rattle.shunt_dual.specs.defs.Weighed.{case_of, UnitHolds}
use Rattle.shunt_dual.proofs.feasibility.holds_in_case.Given as goal

abbrev pub invariant-loop-u : goal.invariant-loop-u
invariant-loop-u l = (w : ℕ) → w < l.u → UnitHolds l.asked l.instance l.covered (case_of l.multiplier l.duals) w
