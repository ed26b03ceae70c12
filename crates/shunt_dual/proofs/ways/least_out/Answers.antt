use Rattle.shunt_instance.specs.defs.Words.{train_at}
use Rattle.shunt_blocks.specs.defs.Ways.{way_to}
use Rattle.shunt_blocks.proofs.UnderWays.{under_both}
use Rattle.shunt_dual.proofs.ways.least_out.Goals as goal

pub returns-clause-least : goal.returns-clause-least
returns-clause-least c = λ k e.
    under_both (λ t side. way_to c.args.instance.now.station (train_at c.args.instance.now.depart c.args.shape.dep.0).origin t side) c.args.track c.cost_out-by_a.result
    c.cost_out-by_b.result c.smaller.result
    c.cost_out-by_a.ensures.exact c.cost_out-by_b.ensures.exact c.smaller.ensures.first c.smaller.ensures.second k.track k.side_out e
