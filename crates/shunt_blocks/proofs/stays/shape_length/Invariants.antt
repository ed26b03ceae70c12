use Rattle.std.proofs.Common.{◌≡◌, ◌≤◌, ◌+◌, ◌*◌}
use Rattle.shunt_lists.specs.defs.Below.{sum_below}
use Rattle.shunt_instance.specs.defs.Instance.{unit_at}
use Rattle.shunt_blocks.specs.defs.Shapes.{unit_from}
use Rattle.shunt_blocks.specs.defs.Stays.{length_of}
use Rattle.shunt_blocks.proofs.stays.shape_length.Given as goal

abbrev pub invariant-loop-k : goal.invariant-loop-k
invariant-loop-k l = record {
  total : l.total ≡ sum_below l.k (λ k. length_of l.instance.station (unit_at l.instance (unit_from l.instance l.fn.shape + k)).kind);
  small : l.total ≤ 5000 * l.k;
}
