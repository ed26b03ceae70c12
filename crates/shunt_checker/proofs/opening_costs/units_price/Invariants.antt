use Rattle.std.specs.Prelude.{cond, ◌==◌}
use Rattle.std.proofs.Common.{◌≡◌, ◌≤◌, ◌*◌}
use Rattle.shunt_lists.specs.defs.Below.{sum_below}
use Rattle.shunt_blocks.specs.defs.Lists.{times_unit}
use Rattle.shunt_blocks.specs.defs.Pins.{unit_price}
use Rattle.shunt_checker.proofs.opening_costs.units_price.Given as goal

abbrev pub invariant-loop-u : goal.invariant-loop-u
invariant-loop-u l = record {
  sum : l.sum ≡ sum_below l.u (λ u. cond (times_unit l.fn.instance l.fn.path.blocks u == 0) (unit_price l.fn.instance u) 0);
  small : l.sum ≤ 2000000 * l.u;
}
