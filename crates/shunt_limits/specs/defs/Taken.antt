-- Which prices are added to those of a case.
use Rattle.std.specs.Prelude.{◌≢◌, ◌<◌, All, List, length}
use Rattle.shunt_base.specs.declared.duals.Price.{Price}
use Rattle.shunt_instance.specs.defs.Instance.{Night}
use Rattle.shunt_prices.specs.defs.Limits.{IsPrice, place_of_price}

-- within the limits, with room for it, and none like it there
pub record IsTaken (night : Night) (prices : List Price) (price : Price) : Type 0 where
  pub limits : IsPrice night price
  pub room : length prices < 64
  pub new : All (λ other. place_of_price other ≢ place_of_price price) prices
