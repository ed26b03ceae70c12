use Rattle.std.specs.Prelude.{All, length}
use Rattle.std.proofs.Common.{◌≡◌, ◌*◌}
use Rattle.shunt_prices.specs.defs.Sums.{IsWithin}
use Rattle.shunt_prices.specs.defs.Limits.{IsValue}
use Rattle.shunt_dual.specs.defs.Refits.{IsMet, AreUnitsRefit}
use Rattle.shunt_dual.proofs.unit_values.refit.Given as goal

abbrev pub invariant-loop-u : goal.invariant-loop-u
invariant-loop-u l = record {
  long : length l.alpha ≡ length l.fn.alpha;
  refit : AreUnitsRefit l.asks l.covered l.u l.fn.alpha l.alpha l.risen;
  alphas : All IsValue l.alpha;
  met : All (IsMet l.alpha) l.asks;
  small : IsWithin (l.u * 1999999999998) l.risen;
}
