use Rattle.shunt_dual.proofs.LeastPart.{cheapest_part}
use Rattle.shunt_dual.proofs.pair_shares.part.Goals as goal

pub returns : goal.returns
returns c = cheapest_part c.args.instance.now c.args.shape _ c.requires.n c.cheapest.ensures.least
