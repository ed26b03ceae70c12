use Rattle.std.specs.Prelude.{pos, true, if◌then◌else◌}
use Rattle.std.proofs.Common.{◌≡◌, ◌*◌, get_or}
use Rattle.shunt_prices.specs.defs.Sums.{sum_z_below, IsWithin}
use Rattle.shunt_checker.proofs.bounds.uncovered_sum.Given as goal

abbrev pub invariant-loop-u : goal.invariant-loop-u
invariant-loop-u l = record {
  exact : l.total ≡ sum_z_below l.u (λ u. if get_or l.covered u true then pos 0 else get_or l.values u (pos 0));
  small : IsWithin (l.u * 999999999999) l.total;
}
