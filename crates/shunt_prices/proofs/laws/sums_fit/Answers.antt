use Rattle.shunt_prices.proofs.Sizes.{count_small, most_small, part_small, paid_small, cost_small, weight_within, over_within, alphas_within, betas_within, from_small, most_within, sum_within}
use Rattle.shunt_prices.proofs.laws.sums_fit.Goals as goal

pub returns : goal.returns
returns c = let opened = c.instances.ensures.opened in record {
  count = λ night price s i p r. count_small night (opened night i) price s p r;
  most = λ night price i p. most_small night (opened night i) price p;
  part = λ night prices s park i p r. part_small night (opened night i) prices s park p r;
  paid = λ night prices i p. paid_small night (opened night i) prices p;
  cost = λ night s park i. cost_small night (opened night i) s park;
  weight = λ night k s park i is r. weight_within night (opened night i) k s park is r;
  over = λ night d s i is r. over_within night (opened night i) d s is r;
  alphas = λ night covered d i is. alphas_within night (opened night i) covered d is;
  betas = λ night covered d i is. betas_within night (opened night i) covered d is;
  from = λ night cases k is lt. from_small night cases k is lt;
  surcharge = λ m from to v few many. most_within m from to v few many;
  sum = λ night path from k i is within few small. sum_within night (opened night i) k path from is within few small;
}
