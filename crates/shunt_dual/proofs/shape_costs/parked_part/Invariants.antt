use Rattle.std.specs.Prelude.{Some}
use Rattle.std.proofs.Common.{◌≡◌, ◌≤◌, ◌*◌, take}
use Rattle.shunt_prices.specs.defs.Prices.{price_part_with}
use Rattle.shunt_dual.proofs.shape_costs.parked_part.Given as goal

abbrev pub invariant-loop-price : goal.invariant-loop-price
invariant-loop-price l = record {
  exact : l.total ≡ price_part_with l.instance (take l.price-index l.prices) l.shape (Some l.park);
  small : l.total ≤ l.price-index * 359999000000000;
}
