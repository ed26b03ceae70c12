use Rattle.std.specs.Prelude.{cond, ◌==◌}
use Rattle.std.proofs.Common.{◌≡◌, ◌≤◌, ◌*◌}
use Rattle.shunt_lists.specs.defs.Below.{sum_below}
use Rattle.shunt_blocks.specs.defs.Lists.{times_position}
use Rattle.shunt_blocks.specs.defs.Pins.{position_price}
use Rattle.shunt_checker.proofs.opening_costs.positions_price.Given as goal

abbrev pub invariant-loop-v : goal.invariant-loop-v
invariant-loop-v l = record {
  sum : l.sum ≡ sum_below l.v (λ v. cond (times_position l.fn.instance l.fn.path.blocks v == 0) (position_price l.fn.instance v) 0);
  small : l.sum ≤ 1000000 * l.v;
}
