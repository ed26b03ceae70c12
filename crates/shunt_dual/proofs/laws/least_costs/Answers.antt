use Rattle.shunt_dual.proofs.PaidShares.{most_cheapest, given_cheapest, small}
use Rattle.shunt_dual.proofs.laws.least_costs.Goals as goal

pub returns : goal.returns
returns c = record {
  most = most_cheapest;
  given = given_cheapest;
  small = small;
}
