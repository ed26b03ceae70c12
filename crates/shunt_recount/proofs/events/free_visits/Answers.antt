use Rattle.std.specs.Prelude.{pos, None}
use Rattle.std.proofs.Common.{slice_index_or}
use Rattle.shunt_recount.specs.declared.offers.Offer.{Offer}
use Rattle.shunt_recount.proofs.Small.{seen}
use Rattle.shunt_recount.proofs.Spanned.{one_more_visit}
use Rattle.shunt_recount.proofs.events.free_visits.Goals as goal

pub offers-preserved : goal.offers-preserved
offers-preserved c =
    let d : Offer = record { block = record { id = 0; arr = record { 0 = 0 }; p = 0; n = 0; dep = record { 0 = 0 }; q = 0; park = None }; gain = pos 0 } in
    let o = slice_index_or c.args.offers.now c.offers.offer-index d in
    one_more_visit c.args.instance.now c.args.offers.now c.offers.offer-index d c.offers.visits.items c.push.new.self.items c.visit_of.result _ c.offers-test.true
    c.in_ok-push.ensures.items c.offers.invariant
    (seen o.gain (c.requires.small c.offers.offer-index d c.offers-test.true)) c.visit_of.ensures
