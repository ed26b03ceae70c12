use Rattle.std.proofs.Common.{arith}
use Rattle.shunt_blocks.proofs.Leasts.{is_cheapest}
use Rattle.shunt_blocks.proofs.least.cheapest.Goals as goal

pub returns-clause-least : goal.returns-clause-least
returns-clause-least c = is_cheapest c.args.instance.now c.args.shape _ _ _ c.shape_cost.ensures.exact c.least_option.ensures.exact (omega arith)
