use Rattle.std.proofs.Common.{◌≡◌, ◌≤◌, ◌*◌, take}
use Rattle.shunt_prices.specs.defs.Prices.{price_part}
use Rattle.shunt_recount.proofs.prices.price_part.Given as goal

abbrev pub invariant-loop-price : goal.invariant-loop-price
invariant-loop-price l = record {
  exact : l.total ≡ price_part l.instance (take l.price-index l.prices) l.block;
  small : l.total ≤ l.price-index * 359999000000000;
}
