use Rattle.std.proofs.Common.{◌≡◌, ◌≤◌}
use Rattle.shunt_blocks.specs.defs.Least.{least_below}
use Rattle.shunt_blocks.proofs.least.least_option.Given as goal

abbrev pub invariant-loop-t : goal.invariant-loop-t
invariant-loop-t l = record {
  best : l.best ≡ least_below l.instance l.fn.shape l.t;
  small : l.best ≤ 1000000;
}
