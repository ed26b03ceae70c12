use Rattle.std.specs.Prelude.{nat_le}
use Rattle.std.proofs.Common.{◌≡◌, ◌+◌}
use Rattle.shunt_lists.specs.defs.Below.{all_below}
use Rattle.shunt_instance.specs.defs.Instance.{ready}
use Rattle.shunt_blocks.specs.defs.Shapes.{unit_from}
use Rattle.shunt_blocks.specs.defs.Stays.{leave_minute}
use Rattle.shunt_blocks.proofs.stays.leaves_too_soon.Given as goal

abbrev pub invariant-loop-k : goal.invariant-loop-k
invariant-loop-k l = l.all ≡ all_below l.k (λ k. nat_le (ready l.instance (unit_from l.instance l.fn.shape + k)) (leave_minute l.instance l.fn.shape))
