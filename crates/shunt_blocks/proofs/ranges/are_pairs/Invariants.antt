use Rattle.std.proofs.Common.{ℕ, ◌<◌, ◌+◌}
use Rattle.shunt_blocks.specs.defs.Shapes.{IsPair, unit_from, position_from}
use Rattle.shunt_blocks.proofs.ranges.are_pairs.Given as goal

abbrev pub invariant-loop-k : goal.invariant-loop-k
invariant-loop-k l = (k : ℕ) → k < l.k → IsPair l.instance (unit_from l.instance l.fn.shape + k) (position_from l.instance l.fn.shape + k)
