use Rattle.shunt_prices.proofs.Whole.{weights_are}
use Rattle.shunt_prices.proofs.laws.weights.Goals as goal

pub returns : goal.returns
returns c = λ night k path. weights_are night k path
