use Rattle.shunt_blocks.specs.defs.Ways.{train_way_in}
use Rattle.shunt_blocks.proofs.UnderWays.{under_both}
use Rattle.shunt_dual.proofs.ways.least_in.Goals as goal

pub returns-clause-least : goal.returns-clause-least
returns-clause-least c = λ k e.
    under_both (λ t side. train_way_in c.args.instance.now c.args.shape.arr t side) c.args.track c.cost_in-by_a.result c.cost_in-by_b.result c.smaller.result
    c.cost_in-by_a.ensures.exact c.cost_in-by_b.ensures.exact c.smaller.ensures.first c.smaller.ensures.second k.track k.side_in e
