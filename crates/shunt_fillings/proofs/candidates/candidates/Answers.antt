use Rattle.shunt_fillings.specs.defs.Pieces.{seen}
use Rattle.shunt_fillings.proofs.Taken.{next_taken}
use Rattle.shunt_fillings.proofs.candidates.candidates.Goals as goal

pub offers-preserved : goal.offers-preserved
offers-preserved c =
    let added = c.in_ok-add_candidate.ensures in
    next_taken c.args.instance.now (seen c.args.stack) c.args.offers.now c.offers.offer-index _ c.offers.candidates.items added.0 c.add_candidate.new.candidates.items
    c.offers-test.true added.2 c.offers.invariant added.1
