use Rattle.std.proofs.Common.{◌≡◌, ◌+◌}
use Rattle.shunt_lists.specs.defs.Below.{all_below}
use Rattle.shunt_instance.specs.defs.Words.{permits}
use Rattle.shunt_instance.specs.defs.Instance.{unit_at}
use Rattle.shunt_blocks.specs.defs.Shapes.{unit_from}
use Rattle.shunt_blocks.proofs.ways.permits_units.Given as goal

abbrev pub invariant-loop-k : goal.invariant-loop-k
invariant-loop-k l = l.all ≡ all_below l.k (λ k. permits l.instance.station l.track (unit_at l.instance (unit_from l.instance l.fn.shape + k)).kind)
