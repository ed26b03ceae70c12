use Rattle.std.specs.Prelude.{◌==◌}
use Rattle.std.proofs.Common.{◌≡◌, ◌+◌}
use Rattle.shunt_lists.specs.defs.Below.{all_below}
use Rattle.shunt_instance.specs.defs.Instance.{unit_at, position_at}
use Rattle.shunt_blocks.specs.defs.Shapes.{unit_from, position_from}
use Rattle.shunt_blocks.proofs.ranges.have_one_type.Given as goal

abbrev pub invariant-loop-k : goal.invariant-loop-k
invariant-loop-k l = l.all ≡ all_below l.k (λ k. (unit_at l.instance (unit_from l.instance l.fn.shape + k)).kind.0 == (position_at l.instance
    (position_from l.instance l.fn.shape + k)).kind.0)
