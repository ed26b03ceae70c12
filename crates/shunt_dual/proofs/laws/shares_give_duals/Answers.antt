use Rattle.shunt_dual.proofs.PaidShares.{duals_hold}
use Rattle.shunt_dual.proofs.laws.shares_give_duals.Goals as goal

pub returns : goal.returns
returns c = duals_hold
