use Rattle.std.specs.Prelude.{pos}
use Rattle.std.proofs.Common.{◌≡◌, ◌+◌, ◌*◌, get_or}
use Rattle.shunt_prices.specs.defs.Sums.{sum_z_below, IsWithin}
use Rattle.shunt_dual.proofs.shape_costs.run_sum.Given as goal

abbrev pub invariant-loop-k : goal.invariant-loop-k
invariant-loop-k l = record {
  exact : l.total ≡ sum_z_below l.k (λ k. get_or l.values (l.fn.from + k) (pos 0));
  small : IsWithin (l.k * 999999999999) l.total;
}
