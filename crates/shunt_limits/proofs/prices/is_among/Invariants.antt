use Rattle.std.proofs.Common.{◌≢◌, All, take}
use Rattle.shunt_prices.specs.defs.Limits.{place_of_price}
use Rattle.shunt_limits.proofs.prices.is_among.Given as goal

abbrev pub invariant-loop-other : goal.invariant-loop-other
invariant-loop-other l = All (λ other. place_of_price other ≢ place_of_price l.price) (take l.other-index l.prices)
