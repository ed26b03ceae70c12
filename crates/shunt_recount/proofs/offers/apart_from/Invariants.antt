use Rattle.std.specs.Prelude.{filter, not}
use Rattle.std.proofs.Common.{◌≡◌, take}
use Rattle.shunt_stacks.specs.defs.Numbers.{shares}
use Rattle.shunt_recount.proofs.offers.apart_from.Given as goal

abbrev pub invariant-offers : goal.invariant-offers
invariant-offers l = l.apart.items ≡ filter (λ o. not (shares l.instance l.block o.block)) (take l.offer-index l.offers)
