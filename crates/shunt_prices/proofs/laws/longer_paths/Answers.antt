use Rattle.shunt_choices.proofs.Given.{PlaceLaws}
use Rattle.shunt_prices.proofs.Longer.{cases_stay, sum_step}
use Rattle.shunt_prices.proofs.RisingBounds.{was_open}
use Rattle.shunt_prices.proofs.laws.longer_paths.Goals as goal

pub returns : goal.returns
returns c =
    let places : PlaceLaws = record { unit_in = c.places.ensures.unit_in; position_in = c.places.ensures.position_in } in
    record {
      hold = λ night path b cases h. cases_stay places night path b cases h;
      opens = λ cases path b k h. was_open cases path b k h;
      sum = λ night path b from k free. sum_step places night path b free from k;
    }
