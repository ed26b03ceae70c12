use Rattle.std.proofs.Common.{arith}
use Rattle.std.proofs.lemmas.Int.{ints}
use Rattle.shunt_prices.proofs.Signed.{round_up, bound_rises}
use Rattle.shunt_prices.proofs.RisingBounds.{one_bound}
use Rattle.shunt_prices.proofs.Open.{has_bound}
use Rattle.shunt_prices.proofs.laws.bounds.Goals as goal

pub returns : goal.returns
returns c = record {
  there = λ sum. round_up sum;
  one = λ sum bound other h k. omega (arith, ints, h.enough, h.least, k.enough, k.least);
  rise = λ sum more bound other le h k. bound_rises sum more bound other le h k;
  of_cases = λ night path cases some. has_bound night path cases some;
  one_of_cases = λ night path cases bound other h k. one_bound night path cases bound other h k;
}
