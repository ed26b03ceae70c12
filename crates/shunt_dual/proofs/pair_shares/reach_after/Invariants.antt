use Rattle.std.proofs.Common.{ℕ, ◌+◌, ◌<◌}
use Rattle.shunt_blocks.specs.defs.Shapes.{IsPair}
use Rattle.shunt_dual.proofs.pair_shares.reach_after.Given as goal

abbrev pub invariant-loop-k : goal.invariant-loop-k
invariant-loop-k l = (j : ℕ) → j < l.k → IsPair l.instance (l.u + j) (l.v + j)
