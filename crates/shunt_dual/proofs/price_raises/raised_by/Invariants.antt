use Rattle.std.proofs.Common.{◌≡◌, ◌++◌, drop}
use Rattle.shunt_dual.specs.defs.Raises.{raised_by}
use Rattle.shunt_dual.proofs.Raised.{rest_of}
use Rattle.shunt_dual.proofs.price_raises.raised_by.Given as goal

abbrev pub invariant-loop-price : goal.invariant-loop-price
invariant-loop-price l = l.all.items ++ rest_of l.found l.by l.track.0 l.train.0 (drop l.price-index l.prices) ≡ raised_by l.by l.track.0 l.train.0 l.prices
