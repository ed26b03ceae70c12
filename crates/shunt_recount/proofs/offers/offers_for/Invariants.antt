use Rattle.std.proofs.Common.{take}
use Rattle.shunt_recount.specs.defs.Offers.{stack_at, AreOffersFor}
use Rattle.shunt_recount.proofs.offers.offers_for.Given as goal

abbrev pub invariant-candidates : goal.invariant-candidates
invariant-candidates l = AreOffersFor l.instance l.case (stack_at l.end) (take l.candidate-index l.candidates) l.offers.items
