use Rattle.std.proofs.Common.{take}
use Rattle.shunt_dual.specs.defs.Offers.{AreOffers}
use Rattle.shunt_dual.proofs.case_offers.offers.Given as goal

abbrev pub invariant-shapes : goal.invariant-shapes
invariant-shapes l = AreOffers l.instance l.duals (take l.shape-index l.shapes) l.offers.items
