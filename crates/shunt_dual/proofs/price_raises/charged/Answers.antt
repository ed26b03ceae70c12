use Rattle.std.proofs.Common.{[], ◌∷◌}
use Rattle.shunt_dual.proofs.price_raises.charged.Goals as goal
use Rattle.shunt_prices.proofs.Counts.{unparked_part}

pub returns-in_default-clause-exact : goal.returns-in_default-clause-exact
returns-in_default-clause-exact c = unparked_part c.args.instance.now (c.args.price ∷ []) c.args.block.now c.in_default.is
