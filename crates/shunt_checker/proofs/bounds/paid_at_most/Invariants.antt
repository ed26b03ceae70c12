use Rattle.std.proofs.Common.{◌≡◌, ◌≤◌, ◌*◌, take}
use Rattle.shunt_prices.specs.defs.Prices.{paid_at_most}
use Rattle.shunt_checker.proofs.bounds.paid_at_most.Given as goal

abbrev pub invariant-loop-price : goal.invariant-loop-price
invariant-loop-price l = record {
  exact : l.total ≡ paid_at_most l.instance (take l.price-index l.prices);
  small : l.total ≤ l.price-index * 50000000000000;
}
