use Rattle.shunt_prices.proofs.Raised.{part_rises, paid_rises, still_hold, still_apart, step_holds}
use Rattle.shunt_prices.proofs.Stepped.{raised_sum, other_alpha}
use Rattle.shunt_prices.proofs.laws.price_steps.Goals as goal

pub returns : goal.returns
returns c = record {
  part = λ night t j prices s park. part_rises night t j prices s park;
  paid = λ night t j prices. paid_rises night t j prices;
  raised = λ night path t j d hold. still_hold night t j path d hold;
  apart = λ t j prices h. still_apart t j prices h;
  sum = λ night path t j d. raised_sum night path t j d;
  alpha = λ night path d u z lt size free. other_alpha night path d u z lt size free;
  step = λ night path old new are step. step_holds night path old new are step;
}
