use Rattle.std.proofs.Common.{◌≡◌, take}
use Rattle.shunt_recount.specs.defs.Visits.{spans_of}
use Rattle.shunt_recount.specs.defs.Offers.{offer_spans}
use Rattle.shunt_recount.proofs.events.free_visits.Given as goal

abbrev pub invariant-offers : goal.invariant-offers
invariant-offers l = spans_of l.visits.items ≡ offer_spans l.instance (take l.offer-index l.offers)
